use Rattle.cf_tables.specs.Extracts.{table_in}
use Rattle.cf_tables.proofs.kind.kind_of.Goals as goal

-- src/kind.rt:63:1
pub returns : goal.returns
returns c = c.kind_unfetched-kind.ensures.unfetched (table_in c.args.extracts.now) (c.is_fetched.ensures.no c.if-is_fetched.false)
