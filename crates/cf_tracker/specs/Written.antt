-- machine: the blocks whose history is written, and what it has of them.
use Rattle.std.specs.Prelude.{◌≡◌, ℕ, suc, ◌+◌, ◌<◌, ◌≤◌, Bool, true, false, is_some, List, [], ◌∷◌, length, slice_index_or, Option, Some, unwrap_or}
use Rattle.cf_headers.specs.Chain.{Hash, Chain}
use Rattle.cf_headers.specs.Heights.{hash_at}
use Rattle.cf_scan.specs.declared.extracts.Placed.{Placed}
use Rattle.cf_scan.specs.declared.extracts.TxExtract.{TxExtract}
use Rattle.cf_tracker.specs.declared.account.Written.{Written}
use Rattle.cf_tables.specs.Known.{ExtractTable}

-- how a block is written: with its extract exactly where there is one
abbrev pub written_as : ExtractTable → Hash → Written
written_as table hash = record { hash = record { 0 = hash }; has_extract = is_some (table hash) }

-- what a history gets of a block
abbrev pub extract_where : Bool → Option (List TxExtract) → List TxExtract
extract_where true o = unwrap_or o []
extract_where false o = []

-- of blocks, the first of them at this height: the extract of each that has one in the history, and an empty one of each
-- other
abbrev pub placed_written : ExtractTable → ℕ → List Written → List Placed
placed_written table height [] = []
placed_written table height (w ∷ ws) =
    record { height = height; extract = extract_where w.has_extract (table w.hash.0) } ∷ placed_written table (suc height) ws

-- no extract changes
abbrev pub KeepsExtracts : ExtractTable → ExtractTable → Type 0
KeepsExtracts before after =
    (hash : Hash) (extract : List TxExtract) → before hash ≡ Some extract → after hash ≡ Some extract

-- the block at a place, counted from 0
abbrev pub no_block : Written
no_block = record { hash = record { 0 = [] }; has_extract = false }

abbrev pub written_at : List Written → ℕ → Written
written_at written place = slice_index_or written place no_block

-- it has this hash, and its extract exactly where there is one
pub record IsWrittenAs (table : ExtractTable) (hash : Hash) (block : Written) : Type 0 where
  pub is : block.hash.0 ≡ hash
  pub has_extract : block.has_extract ≡ is_some (table hash)

-- one stands there, and is so
pub record IsWrittenHere (table : ExtractTable) (hash : Hash) (written : List Written) (place : ℕ) : Type 0 where
  pub here : place < length written
  pub block : IsWrittenAs table hash (written_at written place)

-- up to a height the blocks that are written are those of a chain above genesis
pub record IsWrittenTo (table : ExtractTable) (own : Chain) (written : List Written) (height : ℕ) : Type 0 where
  pub on : height ≤ length own
  pub long : height ≤ length written
  pub each : (h : ℕ) → h < height → IsWrittenAs table (hash_at own (h + 1)) (written_at written h)

-- and up to no greater one
pub record IsWrittenTop (table : ExtractTable) (own : Chain) (written : List Written) (height : ℕ) : Type 0 where
  pub to : IsWrittenTo table own written height
  pub most : (more : ℕ) → IsWrittenTo table own written more → more ≤ height

-- they are a chain's, all of them
pub record IsWrittenWhole (table : ExtractTable) (own : Chain) (written : List Written) : Type 0 where
  pub to : IsWrittenTo table own written (length own)
  pub long : length written ≡ length own
