use Rattle.cf_dispute.specs.Of.{tables_of}
use Rattle.cf_tables.specs.Extracts.{table_in}
use Rattle.cf_tables.specs.Judged.{verdicts_in}
use Rattle.cf_tracker.proofs.Settling.{settled_by, unsettled_by}
use Rattle.cf_tracker.proofs.write.is_settled.Goals as goal

pub returns-clause-yes : goal.returns-clause-yes
returns-clause-yes c = λ is. settled_by (table_in c.args.known.extracts.now) (tables_of c.args.known.claims.now) (verdicts_in c.args.known.judged.now) c.args.block.now.0 c.kind_above.result c.kind_above.ensures (c.is_done.ensures.yes is)

pub returns-clause-no : goal.returns-clause-no
returns-clause-no c = λ off. unsettled_by (table_in c.args.known.extracts.now) (tables_of c.args.known.claims.now) (verdicts_in c.args.known.judged.now) c.args.block.now.0 c.kind_above.result c.kind_above.ensures (c.is_done.ensures.no off)
