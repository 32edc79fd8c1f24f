use Rattle.std.proofs.Common.{◌≡◌, ◌+◌, ℕ, List, [], take}
use Rattle.cf_run.specs.Names.{names_in}
use Rattle.cf_client.specs.Stands.{count_of, rule_by, greeting_by}
use Rattle.cf_run.specs.Texts.{PutBefore}
use Rattle.cf_run.specs.Versions.{KeepsGreeting}
use Rattle.cf_run.specs.Run.{HasNames}
use Rattle.cf_run.specs.States.{HoldsOver, run_state, Runs}
use Rattle.cf_run.proofs.over.dial_all.Given as goal

abbrev pub invariant-loop-name : goal.invariant-loop-name
invariant-loop-name g l = record {
  holds : HoldsOver l.fn.client l.fn.progress [] (g.W.Wires.told l.fn.wires) → HoldsOver l.client l.progress (names_in (take l.name-index l.names)) (g.W.Wires.told l.wires);
  versions : HoldsOver l.fn.client l.fn.progress [] (g.W.Wires.told l.fn.wires) → KeepsGreeting (greeting_by l.fn.client) (g.W.Wires.told l.fn.wires) (g.W.Wires.told l.wires);
  named : HasNames [] (g.W.Wires.told l.fn.wires) → HasNames (names_in (take l.name-index l.names)) (g.W.Wires.told l.wires);
  dials : (g.W.Wires.told l.wires).tally.dials ≡ l.name-index;
  puts : (watch texts : List (List ℕ)) → PutBefore watch texts (g.W.Wires.told l.fn.wires) → PutBefore watch texts (g.W.Wires.told l.wires);
  taken : (g.W.Wires.told l.wires).tally.taken ≡ 0;
  unended : (g.W.Wires.told l.wires).tally.ended ≡ 0;
  rule : rule_by l.client ≡ rule_by l.fn.client;
  greeting : greeting_by l.client ≡ greeting_by l.fn.client;
  next : count_of l.client ≡ (g.W.Wires.told l.wires).tally.dials + 1;
  runs : Runs (run_state (g.W.Wires.told l.fn.wires) (g.W.Wires.faults l.fn.wires) (g.W.Wires.script l.fn.wires) (g.W.Wires.keeps l.fn.wires) l.fn.progress) (run_state (g.W.Wires.told l.wires) (g.W.Wires.faults l.wires) (g.W.Wires.script l.wires) (g.W.Wires.keeps l.wires) l.progress);
}
