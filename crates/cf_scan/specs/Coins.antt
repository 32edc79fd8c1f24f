-- statement: watched coins: a finite map from outpoints to their outputs' values.
use Rattle.std.specs.Prelude.{◌≡◌, ℕ, ◌<◌, ◌^◌, List, sum, All}
use Rattle.std.specs.Coded.{Coded, coded_ℕ}
use Rattle.std.specs.FinMap.{FinMap, values, code, from_entries}
use Rattle.std.specs.Map.{values_of}
use Rattle.cf_block.specs.declared.tx.OutPoint.{OutPoint}
use Rattle.cf_block.specs.Outpoint.{outpoint_cmp, outpoint_code}

-- watched coins: the value of each outpoint's output
abbrev pub WatchedMap : Type 0
WatchedMap = FinMap outpoint_cmp ℕ

-- the sum of the coins
abbrev pub total : WatchedMap → ℕ
total coins = sum (values coins)

abbrev pub coins_code : Coded WatchedMap
coins_code = code outpoint_code coded_ℕ

-- each value has 64 bits, and this is their sum
pub record AreSummed (entries : List (OutPoint × ℕ)) (balance : ℕ) : Type 0 where
  pub sums : balance ≡ total (from_entries entries)
  pub each : All (λ v. v < 2 ^ 64) (values_of entries)
