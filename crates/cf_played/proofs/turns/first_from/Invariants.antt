use Rattle.std.specs.Prelude.{map}
use Rattle.cf_played.specs.Peers.{shown}
use Rattle.cf_played.specs.Turns.{Rest}
use Rattle.cf_played.proofs.turns.first_from.Given as goal

abbrev pub invariant-loop-i : goal.invariant-loop-i
invariant-loop-i l = record { resting : Rest (map shown l.players) l.fn.from l.i }
