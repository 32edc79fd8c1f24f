-- statement: what a connection tells as it is closed.
use Rattle.std.specs.Prelude.{ℕ, Bool, List, Option}

-- the bytes left and the bytes written, where they are told, whether its end was read, and how often it has failed
pub record ConnTold : Type 0 where
  pub left : Option (List ℕ)
  pub written : Option (List ℕ)
  pub ended : Bool
  pub read_faults : ℕ
  pub write_faults : ℕ
