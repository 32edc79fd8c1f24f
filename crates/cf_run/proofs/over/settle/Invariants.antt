use Rattle.std.proofs.Common.{◌≡◌, List, [], ℕ}
use Rattle.cf_wires.specs.Log.{Log}
use Rattle.cf_client.specs.Stands.{Reflects, count_of, rule_by, greeting_by}
use Rattle.cf_run.specs.Versions.{KeepsGreeting}
use Rattle.cf_run.specs.States.{Doing, Waits, trouble, run_state, Performs}
use Rattle.cf_run.proofs.over.settle.Given as goal

abbrev pub invariant-loop-p : goal.invariant-loop-p
invariant-loop-p g l = record {
  waits : (called : List (List ℕ)) (planned : Log) → Reflects l.fn.client planned → Doing (rule_by l.fn.client) [] l.fn.progress called planned (g.W.Wires.told l.fn.wires)
      → Waits l.client l.progress called planned (g.W.Wires.told l.wires);
  versions : (called : List (List ℕ)) (planned : Log) → Reflects l.fn.client planned → Doing (rule_by l.fn.client) [] l.fn.progress called planned (g.W.Wires.told l.fn.wires)
      → KeepsGreeting (greeting_by l.fn.client) (g.W.Wires.told l.fn.wires) (g.W.Wires.told l.wires);
  count : count_of l.client ≡ count_of l.fn.client;
  rule : rule_by l.client ≡ rule_by l.fn.client;
  greeting : greeting_by l.client ≡ greeting_by l.fn.client;
  performs : Performs (run_state (g.W.Wires.told l.fn.wires) (g.W.Wires.faults l.fn.wires) (g.W.Wires.script l.fn.wires) (g.W.Wires.keeps l.fn.wires) l.fn.progress) (run_state (g.W.Wires.told l.wires) (g.W.Wires.faults l.wires) (g.W.Wires.script l.wires) (g.W.Wires.keeps l.wires) l.progress);
}

abbrev pub decreases-loop-p : goal.decreases-loop-p
decreases-loop-p g l = trouble l.progress
