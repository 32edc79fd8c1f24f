use Rattle.std.proofs.Common.{List, ℕ, drop}
use Rattle.cf_wires.specs.Log.{Log}
use Rattle.std.specs.List.{All}
use Rattle.cf_place.specs.Places.{Allowed, after, ActTells}
use Rattle.cf_place.specs.Standing.{Greeting}
use Rattle.cf_sync.specs.Fetching.{Rule}
use Rattle.cf_run.specs.Versions.{KeepsGreeting}
use Rattle.cf_run.specs.States.{Doing, ActsLeft, run_state, Performs}
use Rattle.cf_run.proofs.over.perform_acts.Given as goal

abbrev pub invariant-loop-act : goal.invariant-loop-act
invariant-loop-act g l = record {
  doing : (rule : Rule) (called : List (List ℕ)) (planned : Log) → Allowed rule l.acts planned → Doing rule l.acts l.fn.progress called planned (g.W.Wires.told l.fn.wires)
      → ActsLeft rule (drop l.act-index l.acts) (after l.acts planned) l.progress called (g.W.Wires.told l.wires);
  versions : (greeting : Greeting) → All (ActTells greeting) l.acts → KeepsGreeting greeting (g.W.Wires.told l.fn.wires) (g.W.Wires.told l.wires);
  performs : Performs (run_state (g.W.Wires.told l.fn.wires) (g.W.Wires.faults l.fn.wires) (g.W.Wires.script l.fn.wires) (g.W.Wires.keeps l.fn.wires) l.fn.progress) (run_state (g.W.Wires.told l.wires) (g.W.Wires.faults l.wires) (g.W.Wires.script l.wires) (g.W.Wires.keeps l.wires) l.progress);
}
