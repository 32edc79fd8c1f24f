-- Blocks and filters by their heights.
use Rattle.std.proofs.Common.{◌≡◌, ℕ, zero, suc, ◌+◌, ◌<◌, ◌≤◌, List, [], ◌∷◌, length, take, drop, Some, refl, sym, ap, ◌∙◌, arith, slice_get}
use Rattle.std.proofs.lemmas.List.Quantifiers.{position-Some}
use Rattle.std.specs.FinMap.{empty}
use Rattle.cf_bytes.specs.declared.hash.Hash32.{Hash32}
use Rattle.cf_block.specs.declared.tx.Block.{Block}
use Rattle.cf_block.specs.Genesis.{first_block}
use Rattle.cf_chain.specs.Coins.{CoinMap, after_block}
use Rattle.cf_chain.specs.Filters.{filtered, prevouts, first_filtered, filtered_on, filters_of}
use Rattle.cf_chain.specs.Heights.{all_blocks, has_hash, block_height}

pub slice_get-take : {X : Type 0} (xs : List X) (n i : ℕ) → i < n → slice_get (take n xs) i ≡ slice_get xs i
slice_get-take [] zero i lt = absurd (omega arith)
slice_get-take [] (suc n) i lt = refl
slice_get-take (x ∷ xs) zero i lt = absurd (omega arith)
slice_get-take (x ∷ xs) (suc n) zero lt = refl
slice_get-take (x ∷ xs) (suc n) (suc i) lt = slice_get-take xs n i (omega arith)

pub slice_get-drop : {X : Type 0} (xs : List X) (n i : ℕ) → slice_get (drop n xs) i ≡ slice_get xs (n + i)
slice_get-drop xs zero i = let same : i ≡ 0 + i = omega arith in ap (slice_get xs) same
slice_get-drop [] (suc n) i = let some : suc n + i ≡ suc (n + i) = omega arith in ap (slice_get []) (sym some)
slice_get-drop (x ∷ xs) (suc n) i = let some : suc n + i ≡ suc (n + i) = omega arith in slice_get-drop xs n i ∙ ap (slice_get (x ∷ xs)) (sym some)

-- a block's height is at most the chain's
pub height_within : (hash : Hash32) (blocks : List Block) (height : ℕ) → block_height hash blocks ≡ Some height → height ≤ length blocks
height_within hash blocks height is = let at = position-Some (has_hash hash) (all_blocks blocks) height first_block is in omega (arith, at.0)

length-filtered_on : (coins : CoinMap) (previous : List ℕ) (blocks : List Block) → length (filtered_on coins previous blocks) ≡ length blocks
length-filtered_on coins previous [] = refl
length-filtered_on coins previous (b ∷ bs) =
    ap suc (length-filtered_on (after_block coins b) (filtered (prevouts coins b) previous b).header bs)

-- each block has a filter
pub length-filters_of : (blocks : List Block) → length (filters_of blocks) ≡ suc (length blocks)
length-filters_of blocks = ap suc (length-filtered_on empty first_filtered.header blocks)
