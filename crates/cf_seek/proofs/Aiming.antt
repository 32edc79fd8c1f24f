-- A place of a list of marks, after a change.
use Rattle.std.proofs.Common.{◌≡◌, ◌≢◌, inl, inr, ℕ, ◌<◌, Bool, false, List, length, replicate, ◌∙◌, ap, arith}
use Rattle.std.specs.Prelude.{slice_index_or, slice_set}
use Rattle.std.proofs.lemmas.Grind.{common_steps}
use Rattle.std.proofs.lemmas.Bool.{cases_lt}
use Rattle.std.proofs.lemmas.List.{get_or-replicate, get_or_past, length-replicate}

pub put_at : (xs : List Bool) (p : ℕ) (v : Bool) → p < length xs → slice_index_or (slice_set xs p v) p false ≡ v
put_at xs p v lt = grind (arith, common_steps)

pub put_off : (xs : List Bool) (p : ℕ) (v : Bool) (q : ℕ) → q ≢ p → slice_index_or (slice_set xs p v) q false ≡ slice_index_or xs q false
put_off xs p v q ne = elim (cases_lt p (length xs)) [ inl lt ↦ grind (arith, common_steps) | inr ge ↦ grind (arith, common_steps) ]

pub none_at : (xs : List Bool) (n p : ℕ) → xs ≡ replicate n false → slice_index_or xs p false ≡ false
none_at xs n p e = ap (λ (ys : List Bool). slice_index_or ys p false) e ∙ elim (cases_lt p n) [
  | inl lt ↦ get_or-replicate n p false false lt
  | inr ge ↦ get_or_past (replicate n false) p false (omega (arith, ge, length-replicate n false))
]
