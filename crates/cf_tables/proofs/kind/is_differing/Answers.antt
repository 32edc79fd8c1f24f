use Rattle.cf_dispute.specs.Of.{tables_of}
use Rattle.cf_tables.proofs.Told.{none_differ}
use Rattle.cf_tables.proofs.kind.is_differing.Goals as goal

pub returns-in-One-clause-no : goal.returns-in-One-clause-no
returns-in-One-clause-no c = λ no differ. none_differ (tables_of c.args.claims.now) c.args.block.now.0 c.in-One.field-0 c.in-One.ensures differ
