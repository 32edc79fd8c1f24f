-- Counts of refused starts.
use Rattle.std.proofs.Common.{◌≡◌, ◌⊎◌, ℕ, inl, inr, arith}
use Rattle.cf_bytes.specs.Outside.{HasRisen}

-- a count stands as it was, or has risen
abbrev pub KeptOrRisen : ℕ → ℕ → Type 0
KeptOrRisen was now = (now ≡ was) ⊎ HasRisen was now

pub both : (a b c : ℕ) → KeptOrRisen a b → KeptOrRisen b c → KeptOrRisen a c
both a b c p q = elim p [
  | inl x ↦ elim q [ inl y ↦ inl (omega (arith, x, y)) | inr y ↦ inr (omega (arith, x, y)) ]
  | inr x ↦ elim q [ inl y ↦ inr (omega (arith, x, y)) | inr y ↦ inr (omega (arith, x, y)) ]
]
