use Rattle.std.proofs.Common.{◌≡◌, ◌++◌, length}
use Rattle.cf_hear.proofs.lists.hashes_in.Given as goal

abbrev pub invariant-loop-hash : goal.invariant-loop-hash
invariant-loop-hash l = record { all : l.list ++ l.hashes ≡ l.fn.hashes }

abbrev pub decreases-loop-hash : goal.decreases-loop-hash
decreases-loop-hash l = length l.hashes
