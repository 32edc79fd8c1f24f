use Rattle.std.proofs.Common.{arith}
use Rattle.cf_parallel.proofs.Unpacking.{one_more_same}
use Rattle.cf_parallel.proofs.packed.are_these.Goals as goal

pub loop-i-preserved : goal.loop-i-preserved
loop-i-preserved c =
    let i = c.loop-i.invariant in
    let same = one_more_same c.args.heads.now c.args.jobs.now c.loop-i.left.now c.loop-i.i _ _ _ _ (omega (arith, c.loop-i-test.true, i.lengths)) c.loop-i-test.true c.index-jobs-i.is c.cut.ensures.0 c.cut.ensures.1 (c.is_this.ensures c.if-not-is_this.false) in
    record {
      so_far = λ more. i.so_far (same more);
      lengths = i.lengths;
      within = omega (arith, c.loop-i-test.true);
    }
