use Rattle.cf_tables.specs.Extracts.{table_in}
use Rattle.cf_tables.proofs.HeldLaws.{keys_counted}
use Rattle.cf_tables.proofs.extracts.Extracts.len.Goals as goal

pub returns : goal.returns
unfolding table_in
returns c = keys_counted c.args.self.now.map.entries c.len.result c.len.ensures.len c.len.ensures.ordered
