-- machine: what contracts see of the hub of a row: what it tells as wires.
use Rattle.std.specs.Prelude.{ℕ, Bool}
use Rattle.cf_wires.specs.Log.{Told}

-- what they tell of what passed, how often the outside has failed, and whether they keep their log
pub record Standing : Type 0 where
  pub told : Told
  pub faults : ℕ
  pub keeps : Bool
