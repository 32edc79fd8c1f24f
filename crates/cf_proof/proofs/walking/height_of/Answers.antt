use Rattle.std.proofs.Common.{◌≡◌, ◌+◌, ◌-◌, ◌*◌, ◌/◌, ◌∙◌, sym, arith}
use Rattle.cf_proof.specs.Tree.{height_within}
use Rattle.cf_proof.proofs.TreeLemmas.{height_step, height_done, height_low, twice_there}
use Rattle.cf_proof.proofs.walking.height_of.Goals as goal

pub loop-n-preserved : goal.loop-n-preserved
loop-n-preserved c =
    let half : c.div_ceil-n.result ≡ (c.loop-n.n + 1) / 2 = omega (arith, c.div_ceil-n.ensures) in
    let less : c.args.total - c.loop-n.height - 1 ≡ c.args.total - (c.loop-n.height + 1) = omega arith in
    record {
      value = (λ i. height_within (sym less i) (half i) + (c.loop-n.height + 1)) ∙ height_step (c.args.total - c.loop-n.height) c.loop-n.n c.loop-n.height _ c.loop-n-test.true c.loop-n.invariant.fits c.loop-n.invariant.value;
      fits = omega (arith, half);
      low = omega (arith, height_low c.loop-n.height c.args.total (c.loop-n.invariant.there 1 c.loop-n-test.true) c.requires);
      there = λ k lt. twice_there k c.loop-n.height c.args.total (c.loop-n.invariant.there (2 * k) (omega (arith, half)));
    }

pub returns-clause-value : goal.returns-clause-value
returns-clause-value c = height_done (c.args.total - c.loop-n.height) c.loop-n.n c.loop-n.height _ c.loop-n-test.false c.loop-n.invariant.value
