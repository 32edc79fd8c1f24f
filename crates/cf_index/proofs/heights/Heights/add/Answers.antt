use Rattle.cf_index.proofs.Lowest.{first_stays, first_put}
use Rattle.cf_index.proofs.heights.Heights.add.Goals as goal

pub returns-then-contains_key-clause-ok : goal.returns-then-contains_key-clause-ok
returns-then-contains_key-clause-ok c = first_stays c.self.inside.map.entries _ c.args.hash c.args.height _ c.self.view_is c.contains_key.ensures c.if-contains_key.true

pub returns-clause-ok : goal.returns-clause-ok
returns-clause-ok c = first_put c.self.inside.map.entries c.insert.new.self.entries _ c.args.hash c.args.height _ c.self.view_is c.contains_key.ensures c.if-contains_key.false c.in_ok-insert.ensures.updates.0
