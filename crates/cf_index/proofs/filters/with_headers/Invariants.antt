use Rattle.std.proofs.Common.{◌≡◌, ◌≤◌, ℕ, List, length}
use Rattle.std.specs.FinMap.{empty}
use Rattle.cf_block.specs.declared.tx.Block.{Block}
use Rattle.cf_index.specs.Bare.{AreBuilt}
use Rattle.cf_index.specs.Checked.{prevouts_in}
use Rattle.cf_index.proofs.filters.with_headers.Given as goal

-- the filters so far, and those that are left
abbrev pub invariant-loop-each : goal.invariant-loop-each
invariant-loop-each l = record {
  count : length l.each-iterator.rest.items ≡ l.each-iterator.rest.len;
  so_far : (blocks : List Block) (spent : List (List (List ℕ))) (count : ℕ) → spent ≡ prevouts_in empty blocks → count ≤ length blocks
      → AreBuilt blocks spent count l.fn.headed.filters.items l.fn.headed.last.0 l.fn.bare.items
      → AreBuilt blocks spent count l.filters.items l.last.0 l.each-iterator.rest.items;
}
