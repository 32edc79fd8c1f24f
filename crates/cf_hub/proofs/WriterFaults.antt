-- Counts of the writers, and what is written.
use Rattle.std.proofs.Common.{◌≡◌, ◌≤◌, ◌+◌, ℕ, List, Option, Some, slice_set, get_or, Result, Ok, Err, sym, ap, ◌∙◌, arith}
use Rattle.std.specs.Result.{OnOk, OnErr}
use Rattle.std.specs.List.{slice_get}
use Rattle.std.proofs.lemmas.Option.{get_or_from_slice_get, slice_get_within}
use Rattle.std.proofs.lemmas.List.Sums.{sum_by-set, get_or-le-sum_by}
use Rattle.cf_bytes.specs.Outside.{HasRisen}
use Rattle.cf_hub.specs.Writers.{fault_in, faults_in}

-- two facts of a value, or of an error, make a third
pub on_both : {T E A B C : Type 0} (r : Result T E) → (A → B → C) → OnOk r A → OnOk r B → OnOk r C
on_both (Ok x) f a b = f a b
on_both (Err e) f a b = a

pub on_both_err : {T E A B C : Type 0} (r : Result T E) → (A → B → C) → OnErr r A → OnErr r B → OnErr r C
on_both_err (Ok x) f a b = a
on_both_err (Err e) f a b = f a b

-- how the counts change with one writer's
one_changed : {W : Type 0} (faults : W → ℕ) (ws : List (Option W)) (p : ℕ) (w w' : W) → slice_get ws p ≡ Some (Some w) → faults_in faults (slice_set ws p (Some w')) + faults w ≡ faults_in faults ws + faults w'
one_changed faults ws p w w' at =
    sym (ap (λ o. faults_in faults (slice_set ws p (Some w')) + fault_in faults o) (get_or_from_slice_get ws p (Some w) (Some w) at))
    ∙ sum_by-set (fault_in faults) ws p (Some w') (Some w) (slice_get_within ws p (Some w) at)

pub counts_stay : {W : Type 0} (faults : W → ℕ) (ws : List (Option W)) (p : ℕ) (w w' : W) → slice_get ws p ≡ Some (Some w) → faults w' ≡ faults w → faults_in faults (slice_set ws p (Some w')) ≡ faults_in faults ws
counts_stay faults ws p w w' at e = let h = one_changed faults ws p w w' at in omega (arith, h, e)

-- one writer's count is within the sum
counts_within : {W : Type 0} (faults : W → ℕ) (ws : List (Option W)) (p : ℕ) (w : W) → slice_get ws p ≡ Some (Some w) → faults w ≤ faults_in faults ws
counts_within faults ws p w at =
    let h : fault_in faults (get_or ws p (Some w)) ≤ faults_in faults ws = get_or-le-sum_by (fault_in faults) ws p (Some w) (slice_get_within ws p (Some w) at) in
    let e : fault_in faults (get_or ws p (Some w)) ≡ faults w = ap (fault_in faults) (get_or_from_slice_get ws p (Some w) (Some w) at) in
    omega (arith, h, e)

pub counts_rise : {W : Type 0} (faults : W → ℕ) (ws : List (Option W)) (p : ℕ) (w w' : W) → slice_get ws p ≡ Some (Some w) → faults w ≤ faults w' → HasRisen (faults w) (faults w') → HasRisen (faults_in faults ws) (faults_in faults (slice_set ws p (Some w')))
counts_rise faults ws p w w' at l r = let h = one_changed faults ws p w w' at in let k = counts_within faults ws p w at in omega (arith, h, l, r, k)
