-- machine: how a chain's filters are told.
use Rattle.std.specs.Prelude.{◌≡◌, ℕ, List, ◌++◌, map, take, drop}
use Rattle.std.specs.FinMap.{empty}
use Rattle.cf_block.specs.declared.tx.Block.{Block}
use Rattle.cf_chain.specs.Coins.{coins_after}
use Rattle.cf_chain.specs.Filters.{Filtered, filtered_on, filters_of}
use Rattle.cf_index.specs.declared.block_filter.BlockFilter.{BlockFilter}

-- a block's filter as contracts see it: the block's hash, the filter, and the filter header
abbrev pub shown : BlockFilter → Filtered
shown f = record { block = f.block.0; filter = f.filter; header = f.header.0 }

-- the first filters of a chain, up to that of so many blocks, where this is the last one's header
abbrev pub AreFirst : List Block → ℕ → List ℕ → List BlockFilter → Type 0
AreFirst blocks i last filters = map shown filters ++ filtered_on (coins_after empty (take i blocks)) last (drop i blocks) ≡ filters_of blocks
