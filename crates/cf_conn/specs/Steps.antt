-- statement: steps that lead from one state to another.
use Rattle.std.specs.Prelude.{◌≡◌, ℕ, zero, suc}

-- so many steps lead from the one to the other
unfoldable pub StepsIn : {S : Type 0} → (S → S → Type 0) → ℕ → S → S → Type 0
StepsIn {S} step zero before after = after ≡ before
StepsIn {S} step (suc n) before after = (between : S) × step before between × StepsIn step n between after

-- any number of them
pub record Steps {S : Type 0} (step : S → S → Type 0) (before after : S) : Type 0 where
  pub count : ℕ
  pub each : StepsIn step count before after
