-- The map of coins, as the code keeps it.
use Rattle.std.proofs.Common.{◌≡◌, ℕ, ◌+◌, ◌*◌, ◌^◌, ◌<◌, ◌≤◌, ◌-◌, cond, length, List, sym, ◌∙◌, ap, arith, Some, None}
use Rattle.std.specs.Prelude.{unwrap_or, All}
use Rattle.std.specs.Map.{remove_entry, values_of}
use Rattle.std.specs.BTreeMap.{insert_entry}
use Rattle.std.proofs.lemmas.Map.Views.{All-map-remove_entry, All-values-insert_entry}
use Rattle.std.proofs.lemmas.List.Sums.{sum_by-le}
use Rattle.std.proofs.lemmas.List.{length-map}
use Rattle.std.specs.Ordering.{is_eq}
use Rattle.std.specs.Map.{lookup}
use Rattle.std.specs.FinMap.{get, insert, remove, from_entries, get-from_entries}
use Rattle.cf_block.specs.declared.tx.OutPoint.{OutPoint}
use Rattle.cf_block.specs.Outpoint.{outpoint_cmp}
use Rattle.cf_block.proofs.Outpoints.{outpoint_total, outpoint_same}
use Rattle.cf_scan.specs.Coins.{total, AreSummed}
use Rattle.cf_scan.proofs.Totals.{find-lookup, removed, inserted, sum_of-remove, sum_of-insert, sum_of-le, worth}

-- what is found at an outpoint
pub got : {X : Type 0} (es : List (OutPoint × X)) (p : OutPoint) → get (from_entries {R = outpoint_cmp} es) p ≡ lookup (λ k. is_eq (outpoint_cmp p k)) es
got es p = get-from_entries outpoint_total es p ∙ find-lookup outpoint_cmp p es

pub removed_coin : {X : Type 0} (es fs : List (OutPoint × X)) (k : OutPoint)
    → ((q : OutPoint) → lookup (λ x. is_eq (outpoint_cmp q x)) fs ≡ cond (is_eq (outpoint_cmp k q)) None (lookup (λ x. is_eq (outpoint_cmp q x)) es))
    → from_entries {R = outpoint_cmp} fs ≡ remove (from_entries es) k
removed_coin = removed outpoint_total outpoint_same

pub inserted_coin : {X : Type 0} (es fs : List (OutPoint × X)) (k : OutPoint) (v : X)
    → ((q : OutPoint) → lookup (λ x. is_eq (outpoint_cmp q x)) fs ≡ cond (is_eq (outpoint_cmp k q)) (Some v) (lookup (λ x. is_eq (outpoint_cmp q x)) es))
    → from_entries {R = outpoint_cmp} fs ≡ insert (from_entries es) k v
inserted_coin = inserted outpoint_total outpoint_same

-- the invariant after a coin was taken out
pub kept_removed : (es fs : List (OutPoint × ℕ)) (k : OutPoint) (balance v : ℕ)
    → AreSummed es balance
    → fs ≡ remove_entry (λ x. is_eq (outpoint_cmp k x)) es
    → ((q : OutPoint) → lookup (λ x. is_eq (outpoint_cmp q x)) fs ≡ cond (is_eq (outpoint_cmp k q)) None (lookup (λ x. is_eq (outpoint_cmp q x)) es))
    → v ≡ unwrap_or (lookup (λ x. is_eq (outpoint_cmp k x)) es) 0
    → (v ≤ balance) × AreSummed fs (balance - v)
kept_removed es fs k balance v kept rest now is =
    let sums : balance ≡ total (from_entries es) = kept.sums in
    let after : total (from_entries fs) ≡ total (remove (from_entries es) k) = ap total (removed_coin es fs k now) in
    let found : unwrap_or (get (from_entries {R = outpoint_cmp} es) k) 0 ≡ v = ap (λ o. unwrap_or o 0) (got es k) ∙ sym is in
    let less : total (remove (from_entries es) k) + unwrap_or (get (from_entries {R = outpoint_cmp} es) k) 0 ≡ total (from_entries es) = sum_of-remove outpoint_total outpoint_same (from_entries es) k in (
      omega (arith, sums, found, less),
      record {
        sums = omega (arith, sums, found, less, after);
        each = rw rest (All-map-remove_entry (λ x. is_eq (outpoint_cmp k x)) (λ (e : OutPoint × ℕ). e.1) (λ x. x < 2 ^ 64) es kept.each);
      },
    )

-- and after one was put in
pub kept_inserted : (es fs : List (OutPoint × ℕ)) (k : OutPoint) (balance v old : ℕ)
    → AreSummed es balance
    → v < 2 ^ 64
    → fs ≡ insert_entry outpoint_cmp es k v
    → ((q : OutPoint) → lookup (λ x. is_eq (outpoint_cmp q x)) fs ≡ cond (is_eq (outpoint_cmp k q)) (Some v) (lookup (λ x. is_eq (outpoint_cmp q x)) es))
    → old ≡ unwrap_or (lookup (λ x. is_eq (outpoint_cmp k x)) es) 0
    → (old ≤ balance + v) × AreSummed fs (balance + v - old)
kept_inserted es fs k balance v old kept small more now is =
    let sums : balance ≡ total (from_entries es) = kept.sums in
    let after : total (from_entries fs) ≡ total (insert (from_entries es) k v) = ap total (inserted_coin es fs k v now) in
    let found : unwrap_or (get (from_entries {R = outpoint_cmp} es) k) 0 ≡ old = ap (λ o. unwrap_or o 0) (got es k) ∙ sym is in
    let less : total (insert (from_entries es) k v) + unwrap_or (get (from_entries {R = outpoint_cmp} es) k) 0 ≡ total (from_entries es) + v = sum_of-insert outpoint_total (from_entries es) k v in (
      omega (arith, sums, found, less),
      record {
        sums = omega (arith, sums, found, less, after);
        each = rw more (All-values-insert_entry outpoint_cmp k v (λ x. x < 2 ^ 64) es kept.each small);
      },
    )

-- the sum is far below 2 ^ 128, since a map has fewer than 2 ^ 63 entries
pub kept_small : (es : List (OutPoint × ℕ)) (balance : ℕ) → AreSummed es balance → length es < 2 ^ 63 → balance < 2 ^ 127
kept_small es balance kept few =
    let sums : balance ≡ total (from_entries es) = kept.sums in
    let most : total (from_entries es) ≤ worth es = sum_of-le outpoint_total es in
    let each : All (λ x. x ≤ 18446744073709551615) (values_of es) = λ k d h. let b = kept.each k d h in omega (arith, b) in
    let product : worth es ≤ length (values_of es) * 18446744073709551615 = sum_by-le (λ n. n) 18446744073709551615 (values_of es) each in
    omega (arith, sums, most, product, length-map es (λ (e : OutPoint × ℕ). e.1))
