use Rattle.std.proofs.Common.{◌≡◌, length}
use Rattle.std.specs.List.{AllByRecursion}
use Rattle.cf_block.specs.Header.{IsHash}
use Rattle.cf_played.proofs.omitting.checkpoints.Given as goal

abbrev pub invariant-loop-i : goal.invariant-loop-i
invariant-loop-i l = record { each : AllByRecursion IsHash l.hashes; len : length l.hashes ≡ l.i }
