-- statement: the basic filters of a chain's blocks, and their headers (BIP 158, "Contents"; BIP 157, "Filter Headers").
use Rattle.std.specs.Prelude.{ℕ, List, [], ◌∷◌, map, replicate, slice_get, Option}
use Rattle.std.specs.FinMap.{empty}
use Rattle.cf_block.specs.declared.tx.Block.{Block}
use Rattle.cf_block.specs.Header.{block_hash_of}
use Rattle.cf_block.specs.Genesis.{first_block}
use Rattle.cf_filter.specs.Items.{items_of}
use Rattle.cf_filter.specs.Filter.{basic_filter_of, filter_hash_of, filter_header_of}
use Rattle.cf_chain.specs.Coins.{CoinMap, spent_by, after_block}

-- the scripts that a block's inputs spend, where these coins stand before it
abbrev pub prevouts : CoinMap → Block → List (List ℕ)
prevouts coins b = map (λ o. o.script) (spent_by coins b.txs)

-- a block's hash, its filter and its filter header
pub record Filtered : Type 0 where
  pub block : List ℕ
  pub filter : List ℕ
  pub header : List ℕ

-- those of a block that spends these scripts, after this filter header
abbrev pub filtered : List (List ℕ) → List ℕ → Block → Filtered
filtered spent previous b =
    let filter : List ℕ = basic_filter_of (block_hash_of b.header) (items_of b spent) in
    record { block = block_hash_of b.header; filter = filter; header = filter_header_of (filter_hash_of filter) previous }

-- those of blocks, the lowest first, where these coins stand and this is the filter header before
abbrev pub filtered_on : CoinMap → List ℕ → List Block → List Filtered
filtered_on coins previous [] = []
filtered_on coins previous (b ∷ bs) =
    filtered (prevouts coins b) previous b ∷ filtered_on (after_block coins b) (filtered (prevouts coins b) previous b).header bs

-- before genesis there is no filter header: 32 zero bytes stand for it
abbrev pub first_filtered : Filtered
first_filtered = filtered [] (replicate 32 0) first_block

-- those of genesis and of the blocks above it. Genesis's output is no coin.
abbrev pub filters_of : List Block → List Filtered
filters_of blocks = first_filtered ∷ filtered_on empty first_filtered.header blocks

-- the one at a height, where the chain is as high
abbrev pub filter_at : List Block → ℕ → Option Filtered
filter_at blocks height = slice_get (filters_of blocks) height
