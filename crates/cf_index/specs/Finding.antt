-- statement: where a transaction stands in a chain: the height of its block, and its place there, from 0.
use Rattle.std.specs.Prelude.{◌≡◌, ◌<◌, ℕ, suc, List, [], ◌∷◌, ◌++◌, map, length, get_or, Option, Some, None, IfSome, option_map, bytes_eq}
use Rattle.std.specs.Coded.{Coded, coded×, coded_ℕ}
use Rattle.std.specs.FinMap.{code, get}
use Rattle.std.specs.List.{position}
use Rattle.cf_bytes.specs.declared.hash.Hash32.{Hash32}
use Rattle.cf_block.specs.declared.tx.Tx.{Tx}
use Rattle.cf_block.specs.declared.tx.Block.{Block}
use Rattle.cf_block.specs.Tx.{txid_of}
use Rattle.cf_index.specs.ByHash.{hash_code, ByHash}

-- the hashes of each block's transactions
abbrev pub txids_of : List Block → List (List (List ℕ))
txids_of blocks = map (λ b. map txid_of b.txs) blocks

-- this height and the place there, where there is one; else what was found higher
abbrev pub at_or_higher : ℕ → Option ℕ → Option (ℕ × ℕ) → Option (ℕ × ℕ)
at_or_higher height (Some place) higher = Some (height, place)
at_or_higher height None higher = higher

-- where a hash stands first, where the first of these blocks' hashes are those of the block at this height
unfoldable pub found_from : ℕ → List ℕ → List (List (List ℕ)) → Option (ℕ × ℕ)
found_from height txid [] = None
found_from height txid (ids ∷ above) = at_or_higher height (position (λ id. bytes_eq id txid) ids) (found_from (suc height) txid above)

-- where the first transaction with this hash stands above genesis: at the lowest height, and there at the lowest place; none where no block has one
unfoldable pub first_place : List ℕ → List Block → Option (ℕ × ℕ)
first_place txid blocks = found_from 1 txid (txids_of blocks)

-- a block at this height of a chain has a transaction with this hash at this place
pub record StandsAt (txid : List ℕ) (blocks : List Block) (height place : ℕ) : Type 0 where
  pub lower : List Block
  pub block : Block
  pub higher : List Block
  pub chain : blocks ≡ lower ++ block ∷ higher
  pub height_is : height ≡ suc (length lower)
  pub there : place < length block.txs
  pub hash_is : (d : Tx) → txid_of (get_or block.txs place d) ≡ txid

-- ---- the places of all

abbrev pub PlaceMap : Type 0
PlaceMap = ByHash (ℕ × ℕ)

abbrev pub places_code : Coded PlaceMap
places_code = code hash_code (coded× coded_ℕ coded_ℕ)

-- where a hash stands first among those of the block at this height
abbrev pub place_at : ℕ → List ℕ → List (List ℕ) → Option (ℕ × ℕ)
place_at height txid ids = option_map (λ place. (height, place)) (position (λ id. bytes_eq id txid) ids)

-- each hash has the place where it stands first, and no other hash has one
abbrev pub AreFirstPlaces : PlaceMap → List Block → Type 0
AreFirstPlaces places blocks = (txid : Hash32) → get places txid ≡ first_place txid.0 blocks

-- a transaction with the hash stands at each place
abbrev pub AreTaken : PlaceMap → List Block → Type 0
AreTaken places blocks = (txid : Hash32) → IfSome (get places txid) (λ at. StandsAt txid.0 blocks at.0 at.1)
