-- A list can be watched exactly where each of its scripts can, after those before it.
use Rattle.std.proofs.Common.{◌≡◌, ◌≢◌, ℕ, ◌<◌, ◌≤◌, zero, suc, Bool, true, false, List, [], ◌∷◌, ◌++◌, length, get_or, take, Option, Some, None, refl, append_assoc, append-nil, arith}
use Rattle.std.specs.Prelude.{nat_le, nat_lt, ◌==◌, slice_index, if◌then◌else◌}
use Rattle.std.proofs.lemmas.Bool.Decides.{nat_tests}
use Rattle.cf_scan.specs.Watching.{is_watched, watch_kind_of, first_fault}
use Rattle.cf_scan.specs.Watchable.{IsWatchable, AreWatchable}
use Rattle.cf_scan.specs.declared.watch.WatchKind.{WatchKind}
use Rattle.cf_scan.specs.declared.watch.WatchKind.TheVariants.{Empty, Return, Long, Many, Twice}
use Rattle.cf_scan.proofs.Scripts.{none_later, both_none}

passes : (b : Bool) (kind : WatchKind) (rest : Option WatchKind) → (if b then Some kind else rest) ≡ None → (b ≡ false) × (rest ≡ None)
passes true kind rest h = cc
passes false kind rest h = (refl, h)

passed : (b : Bool) (kind : WatchKind) (rest : Option WatchKind) → b ≡ false → rest ≡ None → (if b then Some kind else rest) ≡ None
passed b kind rest h r = rw h r

is_watchable : (before : List (List ℕ)) (s : List ℕ) → watch_kind_of before s ≡ None → IsWatchable before s
is_watchable before s h =
    let many = passes (nat_le 1000 (length before)) Many _ h in
    let empty = passes (length s == 0) Empty _ many.1 in
    let spent = passes (slice_index s 0 == 106) Return _ empty.1 in
    let long = passes (nat_lt 10000 (length s)) Long _ spent.1 in
    let twice = passes (is_watched before s) Twice None long.1 in
    record {
      few = few many.0;
      some = some empty.0;
      spendable = other spent.0;
      short = short long.0;
      new = twice.0;
    }
  where
    few : nat_le 1000 (length before) ≡ false → length before < 1000
    few e = grind (arith, nat_tests)

    some : (length s == 0) ≡ false → 0 < length s
    some e = grind (arith, nat_tests)

    other : (slice_index s 0 == 106) ≡ false → slice_index s 0 ≢ 106
    other e = grind (arith, nat_tests)

    short : nat_lt 10000 (length s) ≡ false → length s ≤ 10000
    short e = grind (arith, nat_tests)

has_no_kind : (before : List (List ℕ)) (s : List ℕ) → IsWatchable before s → watch_kind_of before s ≡ None
has_no_kind before s w =
    passed (nat_le 1000 (length before)) Many _ (few w.few)
    (passed (length s == 0) Empty _ (some w.some)
    (passed (slice_index s 0 == 106) Return _ (other w.spendable)
    (passed (nat_lt 10000 (length s)) Long _ (short w.short)
    (passed (is_watched before s) Twice None w.new refl))))
  where
    few : length before < 1000 → nat_le 1000 (length before) ≡ false
    few e = grind (arith, nat_tests)

    some : 0 < length s → (length s == 0) ≡ false
    some e = grind (arith, nat_tests)

    other : slice_index s 0 ≢ 106 → (slice_index s 0 == 106) ≡ false
    other e = grind (arith, nat_tests)

    short : length s ≤ 10000 → nat_lt 10000 (length s) ≡ false
    short e = grind (arith, nat_tests)

each_of : (before xs : List (List ℕ)) → first_fault before xs ≡ None → (k : ℕ) (d : List ℕ) → k < length xs → IsWatchable (before ++ take k xs) (get_or xs k d)
each_of before [] h k d lt = absurd (omega arith)
each_of before (x ∷ xs) h zero d lt = rw append-nil (is_watchable before x (none_later (watch_kind_of before x) _ _ h).0)
each_of before (x ∷ xs) h (suc k) d lt = rw (← append_assoc before (x ∷ []) (take k xs)) (each_of (before ++ x ∷ []) xs (none_later (watch_kind_of before x) _ _ h).1 k d (omega arith))

all_of : (before xs : List (List ℕ)) → ((k : ℕ) (d : List ℕ) → k < length xs → IsWatchable (before ++ take k xs) (get_or xs k d)) → first_fault before xs ≡ None
all_of before [] each = refl
all_of before (x ∷ xs) each =
    both_none (watch_kind_of before x) _ _ (has_no_kind before x (rw append-nil at (each 0 [] (omega arith))))
    (all_of (before ++ x ∷ []) xs (λ k d lt. rw (append_assoc before (x ∷ []) (take k xs)) (each (suc k) d (omega arith))))

pub watch_is : (scripts : List (List ℕ)) → first_fault [] scripts ≡ None → AreWatchable scripts
watch_is scripts h = each_of [] scripts h

pub watch_from : (scripts : List (List ℕ)) → AreWatchable scripts → first_fault [] scripts ≡ None
watch_from scripts each = all_of [] scripts each
