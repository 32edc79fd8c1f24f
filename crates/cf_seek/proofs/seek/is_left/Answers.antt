use Rattle.cf_dispute.specs.Of.{tables_of}
use Rattle.cf_tables.specs.Extracts.{table_in}
use Rattle.cf_tables.specs.Judged.{verdicts_in}
use Rattle.cf_tables.proofs.Told.{not_unjudged}
use Rattle.cf_seek.proofs.seek.is_left.Goals as goal

pub returns-then-not-is_unjudged-clause-no : goal.returns-then-not-is_unjudged-clause-no
returns-then-not-is_unjudged-clause-no c = λ e held.
    not_unjudged (table_in c.args.extracts.now) (tables_of c.args.claims.now) (verdicts_in c.args.judged.now) c.args.block.now.0 c.kind_of.result
    c.kind_of.ensures (c.is_unjudged.ensures.no c.if-not-is_unjudged.true)
