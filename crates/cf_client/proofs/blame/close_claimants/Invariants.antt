use Rattle.cf_match.specs.Verdicts.{AreSameVerdicts}
use Rattle.cf_tracker.specs.Tracker.{verdicts_of}
use Rattle.cf_client.specs.Shutting.{ShutsBelow}
use Rattle.cf_client.specs.Steps.{desk}
use Rattle.cf_client.proofs.blame.close_claimants.Given as goal

abbrev pub invariant-loop-i : goal.invariant-loop-i
invariant-loop-i g l = record {
  shuts : ShutsBelow l.i l.exposure.block.0 l.exposure.filter.0 (desk l.fn.tracker l.fn.places l.fn.acts.items) (desk l.tracker l.places l.acts.items);
  verdicts : AreSameVerdicts (verdicts_of l.tracker) (verdicts_of l.fn.tracker);
}
