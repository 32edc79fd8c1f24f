-- Which blocks are in a list, and in its first part.
use Rattle.std.proofs.Common.{◌≡◌, ◌⊎◌, inl, inr, zero, ℕ, suc, ◌+◌, ◌<◌, List, [], ◌∷◌, length, get_or, take, subst, arith, refl}
use Rattle.cf_bytes.specs.declared.hash.Hash32.{Hash32}
use Rattle.cf_dispute.specs.Tables.{blocks_of}
use Rattle.cf_headers.specs.Chain.{Hash, IsIn}

-- a block of the first so many and one is among the first so many or is the next
pub in_more : (xs : List Hash32) (i : ℕ) (d : Hash32) (block : Hash) → i < length xs → IsIn block (blocks_of (take (i + 1) xs)) → IsIn block (blocks_of (take i xs)) ⊎ (block ≡ (get_or xs i d).0)
in_more xs i d block lt is = by xs i lt (subst (λ (n : ℕ). IsIn block (blocks_of (take n xs))) up is) where
  up : i + 1 ≡ suc i
  up = omega arith

  by : (xs : List Hash32) (i : ℕ) → i < length xs → IsIn block (blocks_of (take (suc i) xs)) → IsIn block (blocks_of (take i xs)) ⊎ (block ≡ (get_or xs i d).0)
  by [] i lt is = absurd (omega (arith, lt))
  by (x ∷ xs) zero lt (inl e) = inr e
  by (x ∷ xs) zero lt (inr none) = absurd none
  by (x ∷ xs) (suc i) lt (inl e) = inl (inl e)
  by (x ∷ xs) (suc i) lt (inr later) = elim (by xs i (omega (arith, lt)) later) [ inl before ↦ inl (inr before) | inr this ↦ inr this ]

pub in_longer : (xs : List Hash32) (i : ℕ) (block : Hash) → IsIn block (blocks_of (take i xs)) → IsIn block (blocks_of (take (i + 1) xs))
in_longer xs i block is = (let up : suc i ≡ i + 1 = omega arith in subst (λ (n : ℕ). IsIn block (blocks_of (take n xs))) up (by xs i is)) where
  by : (xs : List Hash32) (i : ℕ) → IsIn block (blocks_of (take i xs)) → IsIn block (blocks_of (take (suc i) xs))
  by xs zero none = absurd none
  by [] (suc i) none = absurd none
  by (x ∷ xs) (suc i) (inl e) = inl e
  by (x ∷ xs) (suc i) (inr later) = inr (by xs i later)

pub in_last : (xs : List Hash32) (i : ℕ) (d : Hash32) → i < length xs → IsIn (get_or xs i d).0 (blocks_of (take (i + 1) xs))
in_last xs i d lt = (let up : suc i ≡ i + 1 = omega arith in subst (λ (n : ℕ). IsIn (get_or xs i d).0 (blocks_of (take n xs))) up (by xs i lt)) where
  by : (xs : List Hash32) (i : ℕ) → i < length xs → IsIn (get_or xs i d).0 (blocks_of (take (suc i) xs))
  by [] i lt = absurd (omega (arith, lt))
  by (x ∷ xs) zero lt = inl refl
  by (x ∷ xs) (suc i) lt = inr (by xs i (omega (arith, lt)))

pub in_taken : (xs : List Hash32) (i : ℕ) (block : Hash) → IsIn block (blocks_of (take i xs)) → IsIn block (blocks_of xs)
in_taken xs zero block none = absurd none
in_taken [] (suc i) block none = absurd none
in_taken (x ∷ xs) (suc i) block (inl e) = inl e
in_taken (x ∷ xs) (suc i) block (inr later) = inr (in_taken xs i block later)
