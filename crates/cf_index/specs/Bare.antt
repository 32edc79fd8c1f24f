-- machine: filters whose headers aren't known yet.
use Rattle.std.specs.Prelude.{◌≡◌, ◌≤◌, ℕ, List, get_or, length}
use Rattle.std.specs.List.{AllZip}
use Rattle.std.specs.FinMap.{empty}
use Rattle.cf_bytes.specs.declared.hash.Hash32.{Hash32}
use Rattle.cf_block.specs.declared.tx.Block.{Block}
use Rattle.cf_block.specs.Header.{block_hash_of}
use Rattle.cf_chain.specs.Good.{IsGoodChain}
use Rattle.cf_filter.specs.Filter.{basic_filter_of}
use Rattle.cf_filter.specs.Items.{items_of}
use Rattle.rayon.specs.Numbers.{nat_range}
use Rattle.cf_index.specs.declared.block_filter.BareFilter.{BareFilter}
use Rattle.cf_index.specs.declared.block_filter.BlockFilter.{BlockFilter}
use Rattle.cf_index.specs.Checked.{hashes_of, prevouts_in}
use Rattle.cf_index.specs.Filtering.{AreFirst}

-- the hash and the filter of a block that spends these scripts
abbrev pub IsBare : List (List ℕ) → Block → BareFilter → Type 0
IsBare scripts b bare = (bare.block.0 ≡ block_hash_of b.header) × (bare.filter ≡ basic_filter_of (block_hash_of b.header) (items_of b scripts))

-- those of the block at this place, which spends the scripts at this place
abbrev pub IsBareAt : List Block → List (List (List ℕ)) → ℕ → BareFilter → Type 0
IsBareAt blocks spent i bare = (b : Block) × (scripts : List (List ℕ)) × (b ≡ get_or blocks i b) × (scripts ≡ get_or spent i scripts) × IsBare scripts b bare

-- what the check of a chain has kept of its blocks
pub record AreKept (blocks : List Block) (hashes : List Hash32) (spent : List (List (List ℕ))) : Type 0 where
  pub good : IsGoodChain blocks
  pub named : hashes ≡ hashes_of blocks
  pub taken : spent ≡ prevouts_in empty blocks

-- the first filters of a chain, of which this is the last one's header, and those of the blocks after them, up to so many, whose headers aren't known yet
abbrev pub AreBuilt : List Block → List (List (List ℕ)) → ℕ → List BlockFilter → List ℕ → List BareFilter → Type 0
AreBuilt blocks spent count filters last bare = (from : ℕ) × (from ≤ count) × AreFirst blocks from last filters × AllZip (IsBareAt blocks spent) (nat_range from count) bare

-- what is made of the first filters of any chain and of those after them is the first filters of all of these
abbrev pub GoOn : List BlockFilter → List ℕ → List BareFilter → List BlockFilter → List ℕ → Type 0
GoOn filters last bare more header =
    (blocks : List Block) (spent : List (List (List ℕ))) (count : ℕ) → spent ≡ prevouts_in empty blocks → count ≤ length blocks
    → AreBuilt blocks spent count filters last bare → AreFirst blocks count header more
