use Rattle.std.proofs.Common.{◌≡◌, ◌≤◌, ◌||◌, length, take}
use Rattle.cf_block.specs.Merkle.{merkle_root_of, is_mutated}
use Rattle.cf_block.specs.Views.{bytes_of}
use Rattle.cf_block.proofs.merkle.tree_over.Given as goal

abbrev pub invariant-loop-n : goal.invariant-loop-n
invariant-loop-n l = record {
  root : merkle_root_of (bytes_of l.fn.level) ≡ merkle_root_of (bytes_of (take l.n l.level));
  doubled : is_mutated (bytes_of l.fn.level) ≡ (l.is_doubled || is_mutated (bytes_of (take l.n l.level)));
  some : 1 ≤ l.n;
  within : l.n ≤ length l.level;
}

abbrev pub decreases-loop-n : goal.decreases-loop-n
decreases-loop-n l = l.n
