-- statement: how far one question goes.
use Rattle.std.specs.Prelude.{◌≡◌, ◌⊎◌, ℕ, ◌+◌, ◌≤◌, None}
use Rattle.cf_dispute.specs.Claims.{Tables}
use Rattle.cf_headers.specs.Chain.{Chain, IsAbove}
use Rattle.cf_headers.specs.Heights.{hash_at}

-- of a peer's blocks between two heights it claims none; none has genesis's hash
abbrev pub AreUnclaimed : Tables → ℕ → Chain → ℕ → ℕ → Type 0
AreUnclaimed tables p own start end = (h : ℕ) → start ≤ h → h ≤ end → IsAbove (hash_at own h) × (tables p (hash_at own h) ≡ None)

-- one question ends there: with the last of the blocks, with the 2000th, or below a block that isn't to be asked about
abbrev pub IsLastUnclaimed : Tables → ℕ → Chain → ℕ → ℕ → ℕ → Type 0
IsLastUnclaimed tables p own start end common = (end ≡ common) ⊎ ((end + 1 ≡ start + 2000) ⊎ (IsAbove (hash_at own (end + 1)) × (tables p (hash_at own (end + 1)) ≡ None) → ⊥))
