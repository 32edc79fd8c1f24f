use Rattle.std.proofs.Common.{◌≤◌, length}
use Rattle.cf_headers.specs.Store.{own_of}
use Rattle.cf_seek.specs.Tracking.{AreAmong}
use Rattle.cf_tracker.proofs.walk.go_along.Given as goal

abbrev pub invariant-loop-block : goal.invariant-loop-block
invariant-loop-block g l =
    let own = own_of (g.H.HeaderStore.chain l.store) l.p in
    record {
      up : l.from ≤ l.height;
      within : l.height ≤ length own;
      along : AreAmong own l.from l.height l.blocks;
    }
