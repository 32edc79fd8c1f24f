use Rattle.std.proofs.Common.{◌≡◌, ◌++◌, length}
use Rattle.cf_index.proofs.shared.shared_blocks.Given as goal

-- the blocks so far, and those that are left
abbrev pub invariant-loop-block : goal.invariant-loop-block
invariant-loop-block l = record {
  count : length l.block-iterator.rest.items ≡ l.block-iterator.rest.len;
  all : l.shared ++ l.block-iterator.rest.items ≡ l.fn.blocks;
}
