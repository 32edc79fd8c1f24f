-- machine: what contracts see of a matcher over threads.
use Rattle.std.specs.Prelude.{◌≡◌, ◌⊎◌, ◌+◌, ℕ}
use Rattle.cf_bytes.specs.Outside.{HasRisen}

-- in how many parts it cuts a batch, and how many threads it has beside the caller's
pub record Sharing : Type 0 where
  pub parts : ℕ
  pub threads : ℕ

-- there is a thread for each part but the first, and no start was refused; or the count of refused starts has risen
abbrev pub HasStarted : Sharing → ℕ → ℕ → Type 0
HasStarted s before now = ((s.threads + 1 ≡ s.parts) × (now ≡ before)) ⊎ HasRisen before now
