use Rattle.std.proofs.Common.{false, refl, rules}
use Rattle.slab.specs.Slab.{get}
use Rattle.cf_dispute.specs.declared.rows.Row.{Row}
use Rattle.cf_dispute.proofs.RowLaws.{joined_table, joined_sets, added_sets, crowded_same, sets_after}
use Rattle.cf_dispute.proofs.rows.Rows.put_beside.Goals as goal

pub returns-in-Some : goal.returns-in-Some
returns-in-Some c =
    let found = c.in-Some.ensures in
    let row : Row = found.0 in
    let joined = c.join.ensures.joins row found.1.0 in
    let next : Row = record row { peers = joined.0 } in
    record {
      table = joined_table (get c.args.self.now.rows) (get c.join.new.self.rows) c.args.self.now.names c.join.new.self.names c.args.p c.in-Some.n c.args.block.now row next c.requires.table found.1.0 found.1.1.0 joined.1.1.0 joined.1.1.1
          refl refl refl joined.1.0.here joined.1.0.others c.requires.new c.requires.low (λ on. on) c.join.ensures.names;
      err = search rules;
      ok = joined_sets (get c.args.self.now.rows) (get c.join.new.self.rows) c.args.p c.in-Some.n c.args.block.now c.args.claim.now row next found.1.0 found.1.1.0 found.1.1.1 joined.1.1.0
          refl refl joined.1.0.here joined.1.0.others joined.1.1.1;
    }

pub returns-in_ok-add-in-None-clause-ok : goal.returns-in_ok-add-in-None-clause-ok
returns-in_ok-add-in-None-clause-ok c =
    let row : Row = record {
      block = c.args.block.now;
      before = c.args.before.now;
      claim = c.args.claim.now;
      peers = c.only.result;
      alone = false;
    } in
    let added = c.in_ok-add-in-None.ensures.ok in
    let other = c.requires.other in
    let crowded = c.crowd.ensures.crowds other.0 other.1.0 in
    sets_after (get c.args.self.now.rows) (get c.crowd.new.self.rows) (get c.add.new.self.rows) c.args.p c.args.block.now c.args.claim.now
    (crowded_same (get c.args.self.now.rows) (get c.crowd.new.self.rows) c.args.other other.0 other.1.0 crowded.0 crowded.1)
    (added_sets (get c.crowd.new.self.rows) (get c.add.new.self.rows) c.args.p added.0 row added.1.0 added.1.1.0 c.only.ensures.here c.only.ensures.others added.1.1.1)
