-- The highest block of a chain.
use Rattle.std.proofs.Common.{◌≡◌, ℕ, zero, suc, ◌<◌, ◌≤◌, List, [], ◌∷◌, ◌++◌, map, length, reverse, take, get_or, slice_get, Option, Some, refl, sym, ap, ◌∙◌, arith, take-suc, take_all}
use Rattle.std.specs.Prelude.{option_map}
use Rattle.std.proofs.lemmas.List.{map-append, reverse-append}
use Rattle.cf_block.specs.declared.header.Header.{Header}
use Rattle.cf_block.specs.declared.tx.Block.{Block}
use Rattle.cf_block.specs.Genesis.{first_block}
use Rattle.cf_block.specs.Header.{block_hash_of, genesis_header}
use Rattle.cf_headers.specs.Chain.{tip_hash}
use Rattle.cf_chain.specs.Good.{headers_of}
use Rattle.cf_chain.specs.Grow.{top_hash}
use Rattle.cf_chain.specs.Heights.{all_blocks}

headers_append : (xs ys : List Block) → headers_of (xs ++ ys) ≡ headers_of ys ++ headers_of xs
headers_append xs ys = ap reverse (map-append (λ (b : Block). b.header) xs ys) ∙ reverse-append (map (λ (b : Block). b.header) xs) (map (λ (b : Block). b.header) ys)

get_is : (xs : List Block) (k : ℕ) (d : Block) → k < length xs → slice_get xs k ≡ Some (get_or xs k d)
get_is [] k d lt = absurd (omega (arith, lt))
get_is (x ∷ xs) zero d lt = refl
get_is (x ∷ xs) (suc k) d lt = get_is xs k d (omega (arith, lt))

first_top : top_hash [] ≡ block_hash_of first_block.header
unfolding first_block
first_top = refl

-- the block at the chain's height has the hash of its tip
pub top_at : (blocks : List Block)
    → option_map (λ (b : Block). block_hash_of b.header) (slice_get (all_blocks blocks) (length blocks)) ≡ Some (top_hash blocks)
top_at blocks = by_length (length blocks) refl where
  by_length : (n : ℕ) → length blocks ≡ n
      → option_map (λ (b : Block). block_hash_of b.header) (slice_get (all_blocks blocks) n) ≡ Some (top_hash blocks)
  by_length zero e = ap (λ x. Some x) (sym (ap top_hash (none_of blocks e) ∙ first_top)) where
    none_of : (xs : List Block) → length xs ≡ 0 → xs ≡ []
    none_of [] e = refl
    none_of (x ∷ xs) e = absurd (omega (arith, e))
  by_length (suc k) e =
      let lt : k < length blocks = omega (arith, e) in
      let all : take (suc k) blocks ≡ blocks = take_all (suc k) blocks (omega (arith, e)) in
      ap (option_map (λ (b : Block). block_hash_of b.header)) (get_is blocks k first_block lt)
      ∙ ap (λ x. Some x)
      (sym (ap top_hash (sym all ∙ take-suc blocks k first_block lt) ∙ ap tip_hash (headers_append (take k blocks) (get_or blocks k first_block ∷ []))))
