-- machine: what a hasher was fed.
use Rattle.std.specs.Prelude.{ℕ, List, ◌++◌}
use Rattle.sha2.specs.declared.Sha256.{Sha256}
use Rattle.sha2.specs.Hashers.{Holds256}

-- a text more than before
pub record Fed (old new : Sha256) (text : List ℕ) : Type 0 where
  pub more : (m : List ℕ) → Holds256 old m → Holds256 new (m ++ text)
