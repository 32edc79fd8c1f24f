use Rattle.std.proofs.Common.{◌<◌, length, arith}
use Rattle.cf_index.proofs.Lowest.{height_next}
use Rattle.cf_index.proofs.heights.heights_of.Goals as goal

pub loop-hash-preserved : goal.loop-hash-preserved
loop-hash-preserved c =
    let below : c.loop-hash.hash-index < length c.args.hashes.now = omega arith in
    record {
      at = omega arith;
      so_far = λ q. height_next c.loop-hash.heights c.add.new.self _ c.args.hashes.now c.loop-hash.hash-index c.loop-hash.height _ q below c.loop-hash.invariant.at
          c.in_ok-add.ensures.ok (c.loop-hash.invariant.so_far q);
    }
