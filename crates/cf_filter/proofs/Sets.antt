-- Sorted sets of scripts.
use Rattle.std.proofs.Common.{◌≡◌, ℕ, List, [], ◌∷◌, Bool, true, false, refl, sym, ap, ◌∙◌, subst}
use Rattle.std.specs.Prelude.{◌||◌, Vec, cond, nat_eq, IsPermutation, IsSorted}
use Rattle.std.specs.Global.{Global}
use Rattle.std.specs.List.{list_any, AllByRecursion, dedup, dedup_from}
use Rattle.std.specs.List.Sorted.{IsStrictlySortedBy}
use Rattle.std.specs.declared.cmp.Ordering.{Ordering}
use Rattle.std.specs.declared.cmp.Ordering.TheVariants.{Less, Equal, Greater}
use Rattle.std.specs.Ordering.{nat_cmp, is_eq, match_ordering, eq_by_cmp, ordering_reverse}
use Rattle.std.specs.Cmp.{alike_right}
use Rattle.std.specs.Cmp.Lexicographic.{slice_cmp, pointwise, nat_list_cmp_total, texts_ties, on_texts}
use Rattle.std.specs.BTreeSet.{insert_key}
use Rattle.std.proofs.lemmas.List.Kept.{IsStrictlySortedBy-dedup}
use Rattle.std.proofs.lemmas.List.Sorted.{list_any-IsPermutation}
use Rattle.std.proofs.lemmas.Map.Lookups.{btree_set_from_contains, exact_bytes}
use Rattle.cf_filter.specs.Items.{texts, sorted_set, IsSortedSet}

abbrev pub order : List ℕ → List ℕ → Ordering
order x y = slice_cmp nat_cmp x y

-- whether a script is in a list
abbrev pub has : List ℕ → List (List ℕ) → Bool
has q xs = list_any (eq_by_cmp order q) xs

or_joins : (a b c : Bool) → (a || (b || c)) ≡ (b || (a || c))
or_joins true true c = refl
or_joins true false c = refl
or_joins false b c = refl

or_same : (a b : Bool) → (a || b) ≡ (a || (a || b))
or_same true b = refl
or_same false b = refl

-- a query finds what is put in, and what it found before
has-insert_key : (q : List ℕ) (ks : List (List ℕ)) (k : List ℕ) → has q (insert_key order ks k) ≡ (eq_by_cmp order q k || has q ks)
has-insert_key q [] k = refl
has-insert_key q (x ∷ xs) k =
    elim (order k x) as (λ r. order k x ≡ r → has q (match_ordering r (k ∷ x ∷ xs) (x ∷ xs) (x ∷ insert_key order xs k)) ≡ (eq_by_cmp order q k || (eq_by_cmp order q x || has q xs))) [
      | Less ↦ λ p. refl
      | Equal ↦ λ p. or_same (eq_by_cmp order q x) _ ∙ ap (λ r. is_eq r || (eq_by_cmp order q x || has q xs)) (sym (alike_right nat_list_cmp_total k x q p))
      | Greater ↦ λ p. ap (λ b. eq_by_cmp order q x || b) (has-insert_key q xs k) ∙ or_joins (eq_by_cmp order q x) (eq_by_cmp order q k) _
    ] refl

pub has-sorted_set : (q : List ℕ) (xs : List (List ℕ)) → has q (sorted_set xs) ≡ has q xs
has-sorted_set q [] = refl
has-sorted_set q (x ∷ xs) = has-insert_key q (sorted_set xs) x ∙ ap (λ b. eq_by_cmp order q x || b) (has-sorted_set q xs)

-- what is below a key is below what is put after it
below-insert_key : (x : List ℕ) (ks : List (List ℕ)) (k : List ℕ) → order x k ≡ Less → AllByRecursion (λ y. order x y ≡ Less) ks → AllByRecursion (λ y. order x y ≡ Less) (insert_key order ks k)
below-insert_key x [] k lt all = (lt, tt)
below-insert_key x (y ∷ ys) k lt all =
    elim (order k y) as (λ r. AllByRecursion (λ z. order x z ≡ Less) (match_ordering r (k ∷ y ∷ ys) (y ∷ ys) (y ∷ insert_key order ys k))) [
      | Less ↦ (lt, all)
      | Equal ↦ all
      | Greater ↦ (all.0, below-insert_key x ys k lt all.1)
    ]

all_below : (k x : List ℕ) (xs : List (List ℕ)) → order k x ≡ Less → AllByRecursion (λ y. order x y ≡ Less) xs → AllByRecursion (λ y. order k y ≡ Less) xs
all_below k x [] lt all = tt
all_below k x (y ∷ ys) lt all = (nat_list_cmp_total.trans k x y lt all.0, all_below k x ys lt all.1)

sorted-insert_key : (ks : List (List ℕ)) (k : List ℕ) → IsStrictlySortedBy order ks → IsStrictlySortedBy order (insert_key order ks k)
unfolding IsStrictlySortedBy
sorted-insert_key [] k up = (tt, tt)
sorted-insert_key (x ∷ xs) k up =
    elim (order k x) as (λ r. order k x ≡ r → IsStrictlySortedBy order (match_ordering r (k ∷ x ∷ xs) (x ∷ xs) (x ∷ insert_key order xs k))) [
      | Less ↦ λ p. ((p, all_below k x xs p up.0), up)
      | Equal ↦ λ p. up
      | Greater ↦ λ p. (below-insert_key x xs k (nat_list_cmp_total.antisymm x k ∙ ap ordering_reverse p) up.0, sorted-insert_key xs k up.1)
    ] refl

pub is_sorted_set : (xs : List (List ℕ)) → IsSortedSet (sorted_set xs)
unfolding IsStrictlySortedBy
is_sorted_set [] = tt
is_sorted_set (x ∷ xs) = sorted-insert_key (sorted_set xs) x (is_sorted_set xs)

-- a sorted set is known by its members
pub same_set : (xs ys : List (List ℕ)) → IsSortedSet xs → IsSortedSet ys → ((q : List ℕ) → has q xs ≡ has q ys) → xs ≡ ys
same_set xs ys ups downs same = btree_set_from_contains nat_list_cmp_total (record { keys = xs }) (record { keys = ys }) ups downs same exact_bytes

-- ---- as a vector has them

abbrev pub same_bytes : Vec ℕ Global → Vec ℕ Global → Bool
same_bytes x y = pointwise nat_eq x.items y.items

pub has-texts : (q : List ℕ) (vs : List (Vec ℕ Global)) → list_any (λ v. eq_by_cmp order q v.items) vs ≡ has q (texts vs)
has-texts q [] = refl
has-texts q (v ∷ vs) = ap (λ b. eq_by_cmp order q v.items || b) (has-texts q vs)

pub equal_is : (r : Ordering) → is_eq r ≡ true → r ≡ Equal
equal_is Less h = cc
equal_is Equal h = refl
equal_is Greater h = cc

any-dedup_from : (q : List ℕ) (k : Vec ℕ Global) (vs : List (Vec ℕ Global)) → list_any (λ v. eq_by_cmp order q v.items) (dedup_from same_bytes k vs) ≡ (eq_by_cmp order q k.items || list_any (λ v. eq_by_cmp order q v.items) vs)
any-dedup_from q k [] = refl
any-dedup_from q k (x ∷ xs) =
    elim (same_bytes x k) as (λ b. same_bytes x k ≡ b → list_any (λ v. eq_by_cmp order q v.items) (cond b (dedup_from same_bytes k xs) (k ∷ dedup_from same_bytes x xs)) ≡ (eq_by_cmp order q k.items || (eq_by_cmp order q x.items || list_any (λ v. eq_by_cmp order q v.items) xs))) [
      | true ↦ λ e.
          let tie : order x.items k.items ≡ Equal = equal_is (order x.items k.items) (sym (texts_ties x.items k.items) ∙ e) in
          any-dedup_from q k xs ∙ or_same (eq_by_cmp order q k.items) _
          ∙ ap (λ r. eq_by_cmp order q k.items || (is_eq r || list_any (λ v. eq_by_cmp order q v.items) xs)) (sym (alike_right nat_list_cmp_total x.items k.items q tie))
      | false ↦ λ e. ap (λ b. eq_by_cmp order q k.items || b) (any-dedup_from q x xs)
    ] refl

any-dedup : (q : List ℕ) (vs : List (Vec ℕ Global)) → list_any (λ v. eq_by_cmp order q v.items) (dedup same_bytes vs) ≡ list_any (λ v. eq_by_cmp order q v.items) vs
any-dedup q [] = refl
any-dedup q (v ∷ vs) = any-dedup_from q v vs

below-texts : (x : Vec ℕ Global) (vs : List (Vec ℕ Global)) → AllByRecursion (λ y. order x.items y.items ≡ Less) vs → AllByRecursion (λ y. order x.items y ≡ Less) (texts vs)
below-texts x [] all = tt
below-texts x (v ∷ vs) all = (all.0, below-texts x vs all.1)

sorted-texts : (vs : List (Vec ℕ Global)) → IsStrictlySortedBy (λ (x y : Vec ℕ Global). order x.items y.items) vs → IsSortedSet (texts vs)
unfolding IsStrictlySortedBy
sorted-texts [] up = tt
sorted-texts (v ∷ vs) up = (below-texts v vs up.0, sorted-texts vs up.1)

-- after a sort and a dedup
pub set_sorted : (sorted made : List (Vec ℕ Global)) → IsSorted (λ (x y : Vec ℕ Global). order x.items y.items) sorted → made ≡ dedup same_bytes sorted → IsSortedSet (texts made)
set_sorted sorted made up is =
    subst (λ vs. IsSortedSet (texts vs)) (sym is) (sorted-texts (dedup same_bytes sorted) (IsStrictlySortedBy-dedup (on_texts (λ (v : Vec ℕ Global). v.items)) (λ x y. texts_ties x.items y.items) sorted up))

pub set_made : (old sorted made : List (Vec ℕ Global)) → IsPermutation old sorted → IsSorted (λ (x y : Vec ℕ Global). order x.items y.items) sorted → made ≡ dedup same_bytes sorted → texts made ≡ sorted_set (texts old)
set_made old sorted made moved up is =
    same_set (texts made) (sorted_set (texts old)) (set_sorted sorted made up is) (is_sorted_set (texts old)) (λ q.
    sym (has-texts q made)
    ∙ ap (list_any (λ (v : Vec ℕ Global). eq_by_cmp order q v.items)) is
    ∙ any-dedup q sorted
    ∙ sym (list_any-IsPermutation (λ (v : Vec ℕ Global). eq_by_cmp order q v.items) old sorted moved)
    ∙ has-texts q old
    ∙ sym (has-sorted_set q (texts old)))
