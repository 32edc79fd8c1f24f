use Rattle.std.proofs.Common.{◌≡◌, ℕ, length, refl, ◌∙◌, subst, arith}
use Rattle.cf_client.specs.Shutting.{ShutsBelow}
use Rattle.cf_client.specs.Steps.{desk}
use Rattle.cf_client.proofs.Shutting.{shuts_next, shuts_none}
use Rattle.cf_client.proofs.blame.close_claimants.Goals as goal

pub loop-i-init : goal.loop-i-init
loop-i-init g c = record {
  shuts = shuts_none c.args.exposure.now.block.0 c.args.exposure.now.filter.0 (desk c.args.tracker.now c.args.places.now c.args.acts.now.items);
  verdicts = λ block hash. refl;
}

pub loop-i-preserved : goal.loop-i-preserved
loop-i-preserved g c = record {
  shuts = shuts_next c.loop-i.i c.args.exposure.now.block.0 c.args.exposure.now.filter.0 (desk c.args.tracker.now c.args.places.now c.args.acts.now.items)
      (desk c.loop-i.tracker c.loop-i.places c.loop-i.acts.items) (desk c.close_if_claimed.new.tracker c.close_if_claimed.new.places c.close_if_claimed.new.acts.items)
      (omega arith) c.loop-i.invariant.shuts c.in_ok-close_if_claimed.ensures.shuts;
  verdicts = λ block hash. c.in_ok-close_if_claimed.ensures.verdicts block hash ∙ c.loop-i.invariant.verdicts block hash;
}

pub returns-clause-shuts : goal.returns-clause-shuts
returns-clause-shuts g c =
    let end : c.loop-i.i ≡ length c.args.places.now = omega arith in
    subst (λ (n : ℕ). ShutsBelow n c.args.exposure.now.block.0 c.args.exposure.now.filter.0
    (desk c.args.tracker.now c.args.places.now c.args.acts.now.items)
    (desk c.loop-i.tracker c.loop-i.places c.loop-i.acts.items)) end c.loop-i.invariant.shuts
