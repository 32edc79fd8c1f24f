-- Which scripts are items.
use Rattle.std.proofs.Common.{◌≡◌, ◌≢◌, ℕ, ◌+◌, ◌≤◌, length-append, List, [], ◌∷◌, ◌++◌, Bool, true, false, refl, sym, ap, ◌∙◌, inl, inr, arith}
use Rattle.std.specs.Prelude.{◌||◌, ◌&&◌, ◌==◌, ◌⊎◌, ◌↔◌, not, filter, Contains, slice_index, flat_map, length}
use Rattle.std.specs.declared.cmp.Ordering.TheVariants.{Less, Equal, Greater}
use Rattle.std.specs.Ordering.{eq_by_cmp, match_ordering}
use Rattle.std.specs.BTreeSet.{insert_key}
use Rattle.std.specs.Cmp.{eq_by_cmp_equiv}
use Rattle.std.specs.Cmp.Lexicographic.{nat_list_cmp_total}
use Rattle.std.proofs.lemmas.Bool.{eqb-true, eqb-false}
use Rattle.std.proofs.lemmas.List.Folds.{list_any-append}
use Rattle.std.proofs.lemmas.List.Concat.{flat_map-cons}
use Rattle.std.proofs.lemmas.List.Filters.{length-filter_both}
use Rattle.std.proofs.lemmas.Map.Views.{any-filter_same, Contains-from_any, list_any-from_Contains}
use Rattle.std.proofs.lemmas.Map.Lookups.{exact_bytes}
use Rattle.cf_block.specs.declared.tx.Tx.{Tx}
use Rattle.cf_block.specs.declared.tx.Block.{Block}
use Rattle.cf_filter.specs.Items.{sorted_set, is_paid_item, is_spent_item, paid_scripts, items_of, IsItem, IsSortedSet}
use Rattle.cf_filter.proofs.Sets.{order, has, has-sorted_set, is_sorted_set, same_set, equal_is}

tie_is : (x y : List ℕ) → eq_by_cmp order x y ≡ true → x ≡ y
tie_is x y h = exact_bytes x y (equal_is (order x y) h)

pub found : (xs : List (List ℕ)) (s : List ℕ) → Contains xs s → has s xs ≡ true
found xs s h = list_any-from_Contains (eq_by_cmp_equiv nat_list_cmp_total) s xs h

pub contained : (xs : List (List ℕ)) (s : List ℕ) → has s xs ≡ true → Contains xs s
contained xs s h = Contains-from_any tie_is s xs h

pub one_set : (a b : List (List ℕ)) → IsSortedSet a → IsSortedSet b → ((s : List ℕ) → Contains a s ↔ Contains b s) → a ≡ b
one_set a b up down same = same_set a b up down (λ q. alike (has q a) (has q b) (λ h. found b q ((same q).0 (contained a q h))) (λ h. found a q ((same q).1 (contained b q h))))
  where
    alike : (x y : Bool) → (x ≡ true → y ≡ true) → (y ≡ true → x ≡ true) → x ≡ y
    alike true y f g = sym (f refl)
    alike false true f g = g refl
    alike false false f g = refl

has_kept : (p : List ℕ → Bool) (s : List ℕ) (xs : List (List ℕ)) → has s (filter p xs) ≡ (p s && has s xs)
has_kept p s xs = any-filter_same (eq_by_cmp order s) p (p s) (λ k h. ap p (sym (tie_is s k h))) xs

and_or : (a b c : Bool) → ((a && b) || (a && c)) ≡ (a && (b || c))
and_or true b c = refl
and_or false b c = refl

and_none : (a : Bool) → false ≡ (a && false)
and_none true = refl
and_none false = refl

has_paid : (s : List ℕ) (txs : List Tx) → has s (flat_map (λ t. filter is_paid_item (paid_scripts t)) txs) ≡ (is_paid_item s && has s (flat_map paid_scripts txs))
has_paid s [] = and_none (is_paid_item s)
has_paid s (t ∷ txs) =
    ap (has s) (flat_map-cons (λ t. filter is_paid_item (paid_scripts t)) t txs)
    ∙ list_any-append (eq_by_cmp order s) (filter is_paid_item (paid_scripts t)) _
    ∙ (λ i. has_kept is_paid_item s (paid_scripts t) i || has_paid s txs i)
    ∙ and_or (is_paid_item s) (has s (paid_scripts t)) (has s (flat_map paid_scripts txs))
    ∙ ap (λ b. is_paid_item s && b) (sym (list_any-append (eq_by_cmp order s) (paid_scripts t) _) ∙ ap (has s) (sym (flat_map-cons paid_scripts t txs)))

has_item : (b : Block) (prevouts : List (List ℕ)) (s : List ℕ) → has s (items_of b prevouts) ≡ ((is_paid_item s && has s (flat_map paid_scripts b.txs)) || (is_spent_item s && has s prevouts))
unfolding items_of
has_item b prevouts s =
    has-sorted_set s _
    ∙ list_any-append (eq_by_cmp order s) (flat_map (λ t. filter is_paid_item (paid_scripts t)) b.txs) (filter is_spent_item prevouts)
    ∙ (λ i. has_paid s b.txs i || has_kept is_spent_item s prevouts i)

either : (a b : Bool) → (a || b) ≡ true → (a ≡ true) ⊎ (b ≡ true)
either true b h = inl refl
either false b h = inr h

both : (a b : Bool) → (a && b) ≡ true → (a ≡ true) × (b ≡ true)
both true b h = (refl, h)
both false b h = cc

with_left : (a b : Bool) → a ≡ true → (a || b) ≡ true
with_left a b h = ap (λ c. c || b) h

with_right : (a b : Bool) → b ≡ true → (a || b) ≡ true
with_right true b h = refl
with_right false b h = h

with_both : (a b : Bool) → a ≡ true → b ≡ true → (a && b) ≡ true
with_both a b h k = ap (λ c. c && b) h ∙ k

paid_is : (s : List ℕ) → is_paid_item s ≡ true → (s ≢ []) × (slice_index s 0 ≢ 0x6a)
paid_is [] h = cc
paid_is (x ∷ xs) h = (λ e. cc, eqb-false x 0x6a (negated (x == 0x6a) h))
  where
    negated : (b : Bool) → not b ≡ true → b ≡ false
    negated true h = cc
    negated false h = refl

paid_from : (s : List ℕ) → s ≢ [] → slice_index s 0 ≢ 0x6a → is_paid_item s ≡ true
paid_from [] some other = absurd (some refl)
paid_from (x ∷ xs) some other = elim (x == 0x6a) as (λ b. (x == 0x6a) ≡ b → not b ≡ true) [
  | true ↦ λ e. absurd (other (eqb-true x 0x6a e))
  | false ↦ λ e. refl
] refl

spent_is : (s : List ℕ) → is_spent_item s ≡ true → s ≢ []
spent_is [] h = cc
spent_is (x ∷ xs) h = λ e. cc

spent_from : (s : List ℕ) → s ≢ [] → is_spent_item s ≡ true
spent_from [] some = absurd (some refl)
spent_from (x ∷ xs) some = elim (length (x ∷ xs) == 0) as (λ b. (length (x ∷ xs) == 0) ≡ b → not b ≡ true) [
  | true ↦ λ e. absurd (omega (arith, eqb-true (length (x ∷ xs)) 0 e))
  | false ↦ λ e. refl
] refl

pub members_are : (b : Block) (prevouts : List (List ℕ)) (s : List ℕ) → Contains (items_of b prevouts) s ↔ IsItem b prevouts s
members_are b prevouts s = (there, back)
  where
    there : Contains (items_of b prevouts) s → IsItem b prevouts s
    there h = elim (either _ _ (sym (has_item b prevouts s) ∙ found (items_of b prevouts) s h)) [
      | inl paid ↦
          let parts = both _ _ paid in
          let named = paid_is s parts.0 in
          inl (contained (flat_map paid_scripts b.txs) s parts.1, named.0, named.1)
      | inr spent ↦
          let parts = both _ _ spent in
          inr (contained prevouts s parts.1, spent_is s parts.0)
    ]

    back : IsItem b prevouts s → Contains (items_of b prevouts) s
    back (inl paid) = contained (items_of b prevouts) s (has_item b prevouts s ∙ with_left _ _ (with_both _ _ (paid_from s paid.1 paid.2) (found (flat_map paid_scripts b.txs) s paid.0)))
    back (inr spent) = contained (items_of b prevouts) s (has_item b prevouts s ∙ with_right _ _ (with_both _ _ (spent_from s spent.1) (found prevouts s spent.0)))

pub items_sorted : (b : Block) (prevouts : List (List ℕ)) → IsSortedSet (items_of b prevouts)
unfolding items_of
items_sorted b prevouts = is_sorted_set (flat_map (λ t. filter is_paid_item (paid_scripts t)) b.txs ++ filter is_spent_item prevouts)

length-insert_key : (ks : List (List ℕ)) (k : List ℕ) → length (insert_key order ks k) ≤ length ks + 1
length-insert_key [] k = omega arith
length-insert_key (x ∷ xs) k =
    elim (order k x) as (λ r. length (match_ordering r (k ∷ x ∷ xs) (x ∷ xs) (x ∷ insert_key order xs k)) ≤ length (x ∷ xs) + 1) [
      | Less ↦ omega arith
      | Equal ↦ omega arith
      | Greater ↦ omega (arith, length-insert_key xs k)
    ]

length-sorted_set : (xs : List (List ℕ)) → length (sorted_set xs) ≤ length xs
length-sorted_set [] = omega arith
length-sorted_set (x ∷ xs) = omega (arith, length-insert_key (sorted_set xs) x, length-sorted_set xs)

length-kept : (p : List ℕ → Bool) (xs : List (List ℕ)) → length (filter p xs) ≤ length xs
length-kept p xs = omega (arith, length-filter_both p (λ x. not (p x)) (λ x. refl) xs)

length-paid : (txs : List Tx) → length (flat_map (λ t. filter is_paid_item (paid_scripts t)) txs) ≤ length (flat_map paid_scripts txs)
length-paid [] = omega arith
length-paid (t ∷ txs) = omega (
  arith,
  ap length (flat_map-cons (λ t. filter is_paid_item (paid_scripts t)) t txs),
  length-append (filter is_paid_item (paid_scripts t)) (flat_map (λ t. filter is_paid_item (paid_scripts t)) txs),
  length-kept is_paid_item (paid_scripts t),
  length-paid txs,
  ap length (flat_map-cons paid_scripts t txs),
  length-append (paid_scripts t) (flat_map paid_scripts txs),
)

pub items_few : (b : Block) (prevouts : List (List ℕ)) → length (items_of b prevouts) ≤ length (flat_map paid_scripts b.txs) + length prevouts
unfolding items_of
items_few b prevouts = omega (
  arith,
  length-sorted_set (flat_map (λ t. filter is_paid_item (paid_scripts t)) b.txs ++ filter is_spent_item prevouts),
  length-append (flat_map (λ t. filter is_paid_item (paid_scripts t)) b.txs) (filter is_spent_item prevouts),
  length-paid b.txs,
  length-kept is_spent_item prevouts,
)
