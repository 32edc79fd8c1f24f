-- machine: threads that wait for a task each.
use Rattle.std.specs.Prelude.{◌≡◌, ◌⊎◌, ◌+◌, ℕ}
use Rattle.cf_bytes.specs.Outside.{HasRisen}

-- how many wait, and how often the queue of one handed its task back
pub record Waiting : Type 0 where
  pub count : ℕ
  pub returned : ℕ

-- one of them has a task now
abbrev pub HasGiven : Waiting → Waiting → Type 0
HasGiven before after = (before.count ≡ after.count + 1) × (after.returned ≡ before.returned)

-- none waited; or the queue of one handed its task back, and that one waits no more
abbrev pub HasFailed : Waiting → Waiting → Type 0
HasFailed before after =
    ((before.count ≡ 0) × (after ≡ before))
    ⊎ ((before.count ≡ after.count + 1) × HasRisen before.returned after.returned)
