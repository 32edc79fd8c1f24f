use Rattle.std.proofs.Common.{◌+◌, ◌≤◌, length, refl, arith}
use Rattle.cf_headers.specs.Store.{own_of}
use Rattle.cf_seek.proofs.Along.{along_more}
use Rattle.cf_tracker.proofs.walk.go_along.Goals as goal

pub loop-block-preserved : goal.loop-block-preserved
loop-block-preserved g c =
    let own = own_of (g.H.HeaderStore.chain c.args.store.now) c.args.p in
    let height = c.loop-block.height in
    let before = c.loop-block.invariant in
    let within : height + 1 ≤ length own = omega (arith, c.if-not-is_next.ensures.within refl, c.height-most.ensures.value) in
    record {
      up = omega (arith, before.up);
      within = within;
      along = along_more own c.args.from height c.args.blocks.now c.loop-block.block-index _ c.loop-block-test.true (c.if-not-is_next.ensures.next refl) before.along;
    }
