-- Numbers in ascending order.
use Rattle.std.proofs.Common.{◌≡◌, ℕ, suc, ◌+◌, ◌<◌, ◌≤◌, List, [], ◌∷◌, length, get_or, Bool, true, false, refl, sym, ap, ◌∙◌, arith, inl, inr}
use Rattle.std.specs.Prelude.{◌||◌, ◌==◌, cond, nat_le, if◌then◌else◌, IsPermutation, IsSorted, sum_by}
use Rattle.std.specs.List.{list_any, AllByRecursion}
use Rattle.std.specs.Ordering.{nat_cmp}
use Rattle.std.proofs.lemmas.Bool.{cases_lt, leb-true, leb-false, eqb-true, eq-eqb}
use Rattle.std.proofs.lemmas.List.Sums.{sum_by-cons}
use Rattle.std.proofs.lemmas.List.Sorted.{IsNonDecreasingBy-from_sort, sum_by-IsPermutation, list_any-IsPermutation}
use Rattle.cf_golomb.specs.Code.{IsSet}
use Rattle.cf_golomb.specs.Meets.{IsAscending, hits}
use Rattle.cf_filter.specs.Filter.{put_in, ascending}

ascending-put_in : (low v : ℕ) (xs : List ℕ) → low ≤ v → IsAscending low xs → IsAscending low (put_in v xs)
ascending-put_in low v [] le up = (le, tt)
ascending-put_in low v (x ∷ xs) le up =
    elim (nat_le v x) as (λ b. nat_le v x ≡ b → IsAscending low (if b then v ∷ x ∷ xs else x ∷ put_in v xs)) [
      | true ↦ λ e. (le, (leb-true v x e, up.1))
      | false ↦ λ e. let lt : x < v = leb-false v x e in (up.0, ascending-put_in x v xs (omega arith) up.1)
    ] refl

pub is_ascending : (vs : List ℕ) → IsAscending 0 (ascending vs)
is_ascending [] = tt
is_ascending (v ∷ vs) = ascending-put_in 0 v (ascending vs) (omega arith) (is_ascending vs)

sum-put_in : (f : ℕ → ℕ) (v : ℕ) (xs : List ℕ) → sum_by f (put_in v xs) ≡ f v + sum_by f xs
sum-put_in f v [] = sum_by-cons f v []
sum-put_in f v (x ∷ xs) =
    elim (nat_le v x) as (λ b. sum_by f (if b then v ∷ x ∷ xs else x ∷ put_in v xs) ≡ f v + sum_by f (x ∷ xs)) [
      | true ↦ sum_by-cons f v (x ∷ xs)
      | false ↦ omega (arith, sum_by-cons f x (put_in v xs), sum-put_in f v xs, sum_by-cons f x xs)
    ]

pub sum-ascending : (f : ℕ → ℕ) (vs : List ℕ) → sum_by f (ascending vs) ≡ sum_by f vs
sum-ascending f [] = refl
sum-ascending f (v ∷ vs) = omega (arith, sum-put_in f v (ascending vs), sum-ascending f vs, sum_by-cons f v vs)

or_joins : (a b c : Bool) → (a || (b || c)) ≡ (b || (a || c))
or_joins true true c = refl
or_joins true false c = refl
or_joins false b c = refl

any-put_in : (p : ℕ → Bool) (v : ℕ) (xs : List ℕ) → list_any p (put_in v xs) ≡ (p v || list_any p xs)
any-put_in p v [] = refl
any-put_in p v (x ∷ xs) =
    elim (nat_le v x) as (λ b. list_any p (if b then v ∷ x ∷ xs else x ∷ put_in v xs) ≡ (p v || (p x || list_any p xs))) [
      | true ↦ refl
      | false ↦ ap (λ b. p x || b) (any-put_in p v xs) ∙ or_joins (p x) (p v) _
    ]

pub any-ascending : (p : ℕ → Bool) (vs : List ℕ) → list_any p (ascending vs) ≡ list_any p vs
any-ascending p [] = refl
any-ascending p (v ∷ vs) = any-put_in p v (ascending vs) ∙ ap (λ b. p v || b) (any-ascending p vs)

length-put_in : (v : ℕ) (xs : List ℕ) → length (put_in v xs) ≡ suc (length xs)
length-put_in v [] = refl
length-put_in v (x ∷ xs) =
    elim (nat_le v x) as (λ b. length (if b then v ∷ x ∷ xs else x ∷ put_in v xs) ≡ suc (suc (length xs))) [
      | true ↦ refl
      | false ↦ ap suc (length-put_in v xs)
    ]

pub length-ascending : (vs : List ℕ) → length (ascending vs) ≡ length vs
length-ascending [] = refl
length-ascending (v ∷ vs) = length-put_in v (ascending vs) ∙ ap suc (length-ascending vs)

below-put_in : (limit v : ℕ) (xs : List ℕ) → v < limit → AllByRecursion (λ x. x < limit) xs → AllByRecursion (λ x. x < limit) (put_in v xs)
below-put_in limit v [] lt all = (lt, tt)
below-put_in limit v (x ∷ xs) lt all =
    elim (nat_le v x) as (λ b. AllByRecursion (λ x. x < limit) (if b then v ∷ x ∷ xs else x ∷ put_in v xs)) [
      | true ↦ (lt, all)
      | false ↦ (all.0, below-put_in limit v xs lt all.1)
    ]

pub below-ascending : (limit : ℕ) (vs : List ℕ) → AllByRecursion (λ x. x < limit) vs → AllByRecursion (λ x. x < limit) (ascending vs)
below-ascending limit [] all = tt
below-ascending limit (v ∷ vs) all = below-put_in limit v (ascending vs) all.0 (below-ascending limit vs all.1)

pub is_set : (low limit : ℕ) (xs : List ℕ) → IsAscending low xs → AllByRecursion (λ x. x < limit) xs → IsSet low limit xs
is_set low limit [] up all = tt
is_set low limit (x ∷ xs) up all = (up.0, all.0, is_set x limit xs up.1 all.1)

-- ---- a list that a sort leaves

rises : (low : ℕ) (xs : List ℕ) → ((i j d : ℕ) → i ≤ j → j < length xs → get_or xs i d ≤ get_or xs j d) → (0 < length xs → low ≤ get_or xs 0 0) → IsAscending low xs
rises low [] up from = tt
rises low (x ∷ xs) up from =
    let le : low ≤ x = from (omega arith) in
    (le, rises x xs (λ i j d ij jl. up (suc i) (suc j) d (omega arith) (omega arith)) (λ some. up 0 1 0 (omega arith) (omega arith)))

pub sorted_rises : (xs : List ℕ) → IsSorted nat_cmp xs → IsAscending 0 xs
sorted_rises xs sorted = rises 0 xs (IsNonDecreasingBy-from_sort (λ x. x) xs sorted) (λ some. omega arith)

-- how often x stands there
abbrev ones : ℕ → ℕ → ℕ
ones x y = cond (y == x) 1 0

one_at : (x : ℕ) → ones x x ≡ 1
one_at x = ap (λ b. cond b 1 0) (eq-eqb x x refl)

none_at : (x y : ℕ) → x < y → ones x y ≡ 0
none_at x y lt = let chosen : Bool → ℕ = λ b. cond b 1 0 in elim (y == x) as (λ b. (y == x) ≡ b → chosen b ≡ 0) [
  | true ↦ λ e. absurd (omega (arith, lt, eqb-true y x e))
  | false ↦ λ e. refl
] refl

none_above : (x low : ℕ) (xs : List ℕ) → x < low → IsAscending low xs → sum_by (ones x) xs ≡ 0
none_above x low [] lt up = refl
none_above x low (y ∷ ys) lt up =
    let under : x < y = omega (arith, lt, up.0) in
    omega (arith, sum_by-cons (ones x) y ys, none_at x y under, none_above x y ys under up.1)

-- ascending lists with the same sums are one
pub same_ascending : (low : ℕ) (xs ys : List ℕ) → IsAscending low xs → IsAscending low ys → ((f : ℕ → ℕ) → sum_by f xs ≡ sum_by f ys) → xs ≡ ys
same_ascending low [] [] ups downs same = refl
same_ascending low [] (y ∷ ys) ups downs same =
    let none : 0 ≡ sum_by (λ z. 1) (y ∷ ys) = same (λ z. 1) in
    absurd (omega (arith, none, sum_by-cons (λ z. 1) y ys))
same_ascending low (x ∷ xs) [] ups downs same =
    let none : sum_by (λ z. 1) (x ∷ xs) ≡ 0 = same (λ z. 1) in
    absurd (omega (arith, none, sum_by-cons (λ z. 1) x xs))
same_ascending low (x ∷ xs) (y ∷ ys) ups downs same =
    let first : x ≡ y = elim (cases_lt x y) [
      | inl lt ↦ absurd (omega (arith, same (ones x), sum_by-cons (ones x) x xs, one_at x, none_above x y (y ∷ ys) lt (omega arith, downs.1)))
      | inr le ↦ elim (cases_lt y x) [
        | inl lt ↦ absurd (omega (arith, same (ones y), sum_by-cons (ones y) y ys, one_at y, none_above y x (x ∷ xs) lt (omega arith, ups.1)))
        | inr ge ↦ omega (arith, le, ge)
      ]
    ] in
    let rest : xs ≡ ys = same_ascending x xs ys ups.1 (rw first downs.1) (λ f. omega (arith, same f, sum_by-cons f x xs, sum_by-cons f y ys, ap f first)) in
    (λ i. first i ∷ rest i)

-- what a sort leaves is the list in ascending order
pub sorted_is : (old sorted : List ℕ) → IsPermutation old sorted → IsSorted nat_cmp sorted → sorted ≡ ascending old
sorted_is old sorted moved up =
    same_ascending 0 sorted (ascending old) (sorted_rises sorted up) (is_ascending old) (λ f. sum_by-IsPermutation f old sorted moved ∙ sym (sum-ascending f old))

-- queries in another order meet the same values
pub hits_moved : (qs rs vs : List ℕ) → IsPermutation qs rs → hits qs vs ≡ hits rs vs
hits_moved qs rs [] moved = refl
hits_moved qs rs (v ∷ vs) moved = (λ i. list_any-IsPermutation (λ q. q == v) qs rs moved i || hits_moved qs rs vs moved i)
