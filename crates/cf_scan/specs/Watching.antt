-- statement: which scripts are watched. One that begins with 0x6a can't be spent, and filters leave it out (BIP 158, "Contents").
use Rattle.std.specs.Prelude.{◌≡◌, ℕ, ◌≤◌, ◌==◌, nat_lt, nat_le, nat_eq, Bool, if◌then◌else◌, List, [], ◌∷◌, ◌++◌, length, slice_index, Option, Some, None, Vec, Result, Ok, Err}
use Rattle.std.specs.Global.{Global}
use Rattle.std.specs.List.{list_any}
use Rattle.std.specs.Cmp.Lexicographic.{slice_cmp, pointwise}
use Rattle.std.specs.Ordering.{nat_cmp}
use Rattle.std.specs.BTreeSet.{BTreeSet, contains_by}
use Rattle.cf_bytes.specs.declared.memory.Refused.{Refused}
use Rattle.cf_bytes.specs.declared.memory.Refused.TheVariants.{No, NoMemory}
use Rattle.cf_scan.specs.declared.watch.WatchKind.{WatchKind}
use Rattle.cf_scan.specs.declared.watch.WatchKind.TheVariants.{Empty, Return, Long, Many, Twice}
use Rattle.cf_scan.specs.declared.watch.WatchFault.{WatchFault}

-- a script stands in the list
abbrev pub is_watched : List (List ℕ) → List ℕ → Bool
is_watched watch script = list_any (pointwise nat_eq script) watch

-- why a script can't be watched after these
abbrev pub watch_kind_of : List (List ℕ) → List ℕ → Option WatchKind
watch_kind_of before script =
    if nat_le 1000 (length before) then Some Many
    else if length script == 0 then Some Empty
    else if slice_index script 0 == 106 then Some Return
    else if nat_lt 10000 (length script) then Some Long
    else if is_watched before script then Some Twice
    else None

-- this fault, or what comes later
abbrev pub or_later : Option WatchKind → ℕ → Option WatchFault → Option WatchFault
or_later (Some kind) place later = Some (record { kind = kind; place = place })
or_later None place later = later

-- the first script that can't be watched, after those that could
abbrev pub first_fault : List (List ℕ) → List (List ℕ) → Option WatchFault
first_fault before [] = None
first_fault before (s ∷ rest) = or_later (watch_kind_of before s) (length before) (first_fault (before ++ s ∷ []) rest)

-- the first script that can't be watched, counted from 0
abbrev pub watch_fault_of : List (List ℕ) → Option WatchFault
watch_fault_of scripts = first_fault [] scripts

-- the list can be watched as a whole
abbrev pub IsWatch : List (List ℕ) → Type 0
IsWatch scripts = watch_fault_of scripts ≡ None

-- the sorted scripts are those of the list
abbrev pub Agree : List (List ℕ) → BTreeSet (Vec ℕ Global) → Type 0
Agree watch sorted = (q : List ℕ) → contains_by (λ k. slice_cmp nat_cmp q k.items) sorted ≡ is_watched watch q

-- a list that can be watched, with its scripts sorted too
pub record IsKept (scripts : List (List ℕ)) (sorted : BTreeSet (Vec ℕ Global)) : Type 0 where
  pub agree : Agree scripts sorted
  pub few : length scripts ≤ 1000
  pub watch : IsWatch scripts

-- all scripts, where none is refused, and else the first fault
abbrev pub GivesWatch : Result (List (List ℕ)) (Refused WatchFault) → List (List ℕ) → Type 0
GivesWatch (Ok watch) scripts = (watch_fault_of scripts ≡ None) × (watch ≡ scripts)
GivesWatch (Err (No fault)) scripts = watch_fault_of scripts ≡ Some fault
GivesWatch (Err NoMemory) scripts = Unit {0}

-- one script more, where it isn't refused
abbrev pub GivesMore : {A : Type 0} → Result A (Refused WatchKind) → Option WatchKind → Type 0
GivesMore (Ok u) kind = kind ≡ None
GivesMore (Err (No k)) kind = kind ≡ Some k
GivesMore (Err NoMemory) kind = Unit {0}
