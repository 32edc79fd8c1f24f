use Rattle.std.proofs.Common.{◌≡◌, List, ℕ}
use Rattle.cf_run.specs.States.{HoldsOver, TookTurns, run_at}
use Rattle.cf_client.specs.Stands.{rule_by, greeting_by}
use Rattle.cf_run.specs.Versions.{KeepsGreeting}
use Rattle.cf_run.proofs.over.take_turns.Given as goal

abbrev pub invariant-loop-turn : goal.invariant-loop-turn
invariant-loop-turn g l = record {
  holds : (called : List (List ℕ)) → HoldsOver l.fn.client l.fn.progress called (g.W.Wires.told l.fn.wires) → HoldsOver l.client l.progress called (g.W.Wires.told l.wires);
  versions : (called : List (List ℕ)) → HoldsOver l.fn.client l.fn.progress called (g.W.Wires.told l.fn.wires) → KeepsGreeting (greeting_by l.fn.client) (g.W.Wires.told l.fn.wires) (g.W.Wires.told l.wires);
  rule : rule_by l.client ≡ rule_by l.fn.client;
  greeting : greeting_by l.client ≡ greeting_by l.fn.client;
  took : TookTurns l._turn (run_at g.W.Wires.told g.W.Wires.faults g.W.Wires.script g.W.Wires.keeps l.fn.wires l.fn.progress)
      (run_at g.W.Wires.told g.W.Wires.faults g.W.Wires.script g.W.Wires.keeps l.wires l.progress);
}
