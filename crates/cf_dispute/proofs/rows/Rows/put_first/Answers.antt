use Rattle.std.proofs.Common.{true}
use Rattle.slab.specs.Slab.{get}
use Rattle.cf_dispute.specs.declared.rows.Row.{Row}
use Rattle.cf_dispute.proofs.RowLaws.{none_of_it, added_sets}
use Rattle.cf_dispute.proofs.rows.Rows.put_first.Goals as goal

pub add-requires-clause-claims : goal.add-requires-clause-claims
add-requires-clause-claims c = λ q h. none_of_it (get c.args.self.now.rows) c.args.block.now q c.requires.none

pub returns-clause-ok : goal.returns-clause-ok
returns-clause-ok c =
    let row : Row = record {
      block = c.args.block.now;
      before = c.args.before.now;
      claim = c.args.claim.now;
      peers = c.only.result;
      alone = true;
    } in
    let added = c.in_ok-add.ensures.ok in
    added_sets (get c.args.self.now.rows) (get c.add.new.self.rows) c.args.p added.0 row added.1.0 added.1.1.0 c.only.ensures.here c.only.ensures.others added.1.1.1
