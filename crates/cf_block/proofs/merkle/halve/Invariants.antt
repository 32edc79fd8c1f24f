use Rattle.std.proofs.Common.{◌≡◌, ◌++◌, ◌*◌, ◌-◌, take, drop}
use Rattle.cf_block.specs.Merkle.{next_level}
use Rattle.cf_block.specs.Views.{bytes_of}
use Rattle.cf_block.proofs.merkle.halve.Given as goal

abbrev pub invariant-loop-i : goal.invariant-loop-i
invariant-loop-i l = next_level (bytes_of (take l.n l.fn.level)) ≡ bytes_of (take l.i l.level) ++ next_level (bytes_of (take (l.n - 2 * l.i) (drop (2 * l.i) l.level)))
