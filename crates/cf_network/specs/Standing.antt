-- machine: what contracts see of wires that tell the user what passes.
use Rattle.std.specs.Prelude.{◌≡◌, ◌⊎◌, min, ℕ, Bool}
use Rattle.cf_bytes.specs.Outside.{HasRisen}
use Rattle.cf_wires.specs.Log.{Told}

-- what they tell of what passed, how often the outside has failed, whether they keep their log, and how many threads wait for a reader and for the ticker
pub record Standing : Type 0 where
  pub told : Told
  pub faults : ℕ
  pub keeps : Bool
  pub readers : ℕ
  pub tickers : ℕ

-- a thread waits for the reader of each of so many peers, and one for the ticker where there are any; or the count of refused starts has risen
abbrev pub HasThreads : ℕ → Standing → ℕ → ℕ → Type 0
HasThreads peers s before now = ((s.readers ≡ peers) × (s.tickers ≡ min 1 peers)) ⊎ HasRisen before now
