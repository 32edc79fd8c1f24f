use Rattle.cf_dispute.specs.Of.{tables_of}
use Rattle.cf_tables.specs.Extracts.{table_in}
use Rattle.cf_tables.specs.Judged.{verdicts_in}
use Rattle.cf_tables.proofs.Told.{not_unjudged}
use Rattle.cf_seek.proofs.seek.is_to_ask.Goals as goal

pub returns-then-not-is_unjudged-clause-no : goal.returns-then-not-is_unjudged-clause-no
returns-then-not-is_unjudged-clause-no c = λ e is.
    not_unjudged (table_in c.args.known.extracts.now) (tables_of c.args.known.claims.now) (verdicts_in c.args.known.judged.now) c.args.block.now.0 c.kind_above-kind.result (c.kind_above-kind.ensures.0 is.above) (c.is_unjudged.ensures.no c.if-not-is_unjudged.true) is.un
