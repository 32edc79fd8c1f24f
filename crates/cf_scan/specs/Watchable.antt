-- statement: what the scripts of a watch have in common, one by one.
use Rattle.std.specs.Prelude.{◌≡◌, ◌≢◌, ℕ, ◌<◌, ◌≤◌, false, List, length, slice_index, slice_index_or, take}
use Rattle.cf_scan.specs.Watching.{is_watched}

-- a script of 1 to 10,000 bytes that something can spend, and that isn't among these, fewer than 1000
pub record IsWatchable (before : List (List ℕ)) (script : List ℕ) : Type 0 where
  pub few : length before < 1000
  pub some : 0 < length script
  pub spendable : slice_index script 0 ≢ 106
  pub short : length script ≤ 10000
  pub new : is_watched before script ≡ false

-- each script can be watched after those before it
abbrev pub AreWatchable : List (List ℕ) → Type 0
AreWatchable scripts = (k : ℕ) (d : List ℕ) → k < length scripts → IsWatchable (take k scripts) (slice_index_or scripts k d)
