-- How many requests are open.
use Rattle.std.proofs.Common.{◌≡◌, ℕ, zero, suc, ◌+◌, ◌≤◌, List, length, take, get_or, Bool, if◌then◌else◌, refl, sym, ◌∙◌, ap, arith}
use Rattle.std.specs.List.{count_by}
use Rattle.std.proofs.lemmas.List.{take_all}
use Rattle.std.proofs.lemmas.List.Sums.{sum_by_more}
use Rattle.cf_wires.specs.Log.{Log}
use Rattle.cf_peer.specs.Trail.{part_of, trail}
use Rattle.cf_peer.specs.Asking.{is_open}
use Rattle.cf_place.specs.declared.place.Place.{Place}
use Rattle.cf_place.specs.Places.{PlacesStand, nobody, is_busy}
use Rattle.cf_client.specs.Stands.{count_below, open_count}
use Rattle.cf_client.proofs.Standing.{busy_open}

-- the first places that pass a test are as many as the numbers
counts : (f : ℕ → Bool) (places : List Place) → ((i : ℕ) → is_busy (get_or places i nobody) ≡ f i) → (k : ℕ) → k ≤ length places → count_below f k ≡ count_by is_busy (take k places)
counts f places each zero le = refl
counts f places each (suc k) le =
    let more : count_by is_busy (take (k + 1) places) ≡ count_by is_busy (take k places) + (if is_busy (get_or places k nobody) then 1 else 0)
    = sum_by_more (λ (x : Place). if is_busy x then 1 else 0) places k nobody (omega (arith, le)) in
    let next : k + 1 ≡ suc k = omega arith in
    ap (λ (n : ℕ). n + (if f k then 1 else 0)) (counts f places each k (omega (arith, le))) ∙ ap (λ (b : Bool). count_by is_busy (take k places) + (if b then 1 else 0)) (sym (each k)) ∙ sym more
    ∙ ap (λ (n : ℕ). count_by is_busy (take n places)) next

pub open_is : (places : List Place) (log : Log) → PlacesStand places log → count_by is_busy places ≡ open_count log
open_is places log stand =
    let f : ℕ → Bool = λ p. is_open (trail log p) in
    let each : (i : ℕ) → is_busy (get_or places i nobody) ≡ f i = λ i. sym (busy_open (get_or places i nobody) (part_of log i) (stand.each i)) in
    sym (ap (count_below f) (sym stand.count) ∙ counts f places each (length places) (omega arith) ∙ ap (count_by is_busy) (take_all (length places) places (omega arith)))
