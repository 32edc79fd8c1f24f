-- statement: outputs.
use Rattle.std.specs.Prelude.{ℕ, List}

-- a value and the script that it pays
pub record Output : Type 0 where
  pub value : ℕ
  pub script : List ℕ

-- the greatest value: 21 million coins
abbrev pub max_value : ℕ
max_value = 2100000000000000
