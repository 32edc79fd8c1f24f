use Rattle.std.proofs.Common.{◌≡◌, List, [], ℕ}
use Rattle.cf_peer.specs.declared.mode.Mode.TheVariants.{Following}
use Rattle.cf_client.specs.Stands.{rule_by, watch_by, greeting_by}
use Rattle.cf_run.specs.States.{HoldsOver, TookTurns, run_at}
use Rattle.cf_run.specs.Texts.{HavePut, PutBefore, last_text}
use Rattle.cf_run.specs.Versions.{KeepsGreeting}
use Rattle.cf_run.proofs.follow.follow_turns.Given as goal

abbrev pub invariant-loop-turn : goal.invariant-loop-turn
invariant-loop-turn g l = record {
  follows : (rule_by l.client).mode ≡ Following;
  holds : (called : List (List ℕ)) → HoldsOver l.fn.client l.fn.progress called (g.W.Wires.told l.fn.wires) → HoldsOver l.client l.progress called (g.W.Wires.told l.wires);
  puts : (watch called : List (List ℕ)) → watch_by l.fn.client ≡ watch → HoldsOver l.fn.client l.fn.progress called (g.W.Wires.told l.fn.wires) → PutBefore watch [] (g.W.Wires.told l.fn.wires)
      → HavePut watch (last_text l.last) (g.W.Wires.told l.wires) (g.T.Texts.told l.fn.texts) (g.T.Texts.told l.texts);
  versions : (called : List (List ℕ)) → HoldsOver l.fn.client l.fn.progress called (g.W.Wires.told l.fn.wires) → KeepsGreeting (greeting_by l.fn.client) (g.W.Wires.told l.fn.wires) (g.W.Wires.told l.wires);
  rule : rule_by l.client ≡ rule_by l.fn.client;
  greeting : greeting_by l.client ≡ greeting_by l.fn.client;
  took : TookTurns l._turn (run_at g.W.Wires.told g.W.Wires.faults g.W.Wires.script g.W.Wires.keeps l.fn.wires l.fn.progress)
      (run_at g.W.Wires.told g.W.Wires.faults g.W.Wires.script g.W.Wires.keeps l.wires l.progress);
  fine : g.T.Texts.faults l.texts ≡ g.T.Texts.faults l.fn.texts;
  same_reference : g.T.Texts.holds l.texts ≡ g.T.Texts.holds l.fn.texts;
}
