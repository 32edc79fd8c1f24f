-- statement: what is done with a spawner.
use Rattle.std.specs.Prelude.{◌≡◌, ◌⊎◌, ℕ, zero, suc, Bool, true, false}

-- a task was put to it, and at most a failed start counted
abbrev pub IsPut : {K : Type 0} → (K → Bool → K → Type 0) → K → K → Type 0
IsPut {K} moves old new = (between : K) × moves old true between × ((new ≡ between) ⊎ moves between false new)

-- so many tasks, one after another
abbrev pub ArePut : {K : Type 0} → (K → Bool → K → Type 0) → ℕ → K → K → Type 0
ArePut moves zero old new = new ≡ old
ArePut {K} moves (suc n) old new = (last : K) × ArePut moves n old last × IsPut moves last new
