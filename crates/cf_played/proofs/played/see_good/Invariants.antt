use Rattle.std.proofs.Common.{take}
use Rattle.std.specs.Prelude.{map}
use Rattle.cf_played.specs.Peers.{AreGood, shown}
use Rattle.cf_played.proofs.played.see_good.Given as goal

abbrev pub invariant-loop-player : goal.invariant-loop-player
invariant-loop-player l = record { good : AreGood (map shown (take l.player-index l.players)) }
