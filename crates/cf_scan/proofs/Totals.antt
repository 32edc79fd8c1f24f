-- Finite maps: what stands in them after a change, and sums of their values.
use Rattle.std.proofs.Common.{◌≡◌, ℕ, ◌+◌, ◌≤◌, Bool, true, false, cond, ◌&&◌, T, List, [], ◌∷◌, map, length, refl, sym, ◌∙◌, ap, subst, arith, Option, Some, None}
use Rattle.std.specs.Prelude.{sum, unwrap_or}
use Rattle.std.specs.declared.cmp.Ordering.{Ordering}
use Rattle.std.specs.declared.cmp.Ordering.TheVariants.{Less, Equal, Greater}
use Rattle.std.specs.Ordering.{eq_by_cmp, is_eq, is_lt}
use Rattle.std.specs.Map.{lookup}
use Rattle.std.specs.Cmp.{IsTotalOrder, eq_by_cmp_equiv, tied_itself}
use Rattle.std.specs.FinMap.{FinMap, IsAntisymmetric, find, put, is_sorted, entries, entries_sorted, values, get, get-entries, insert, remove, empty, from_entries, len-entries, len-empty, entries-insert, get-insert, get-remove, get-from_entries, same_map}
use Rattle.std.specs.FinMap.Entries.{below_all, by_order}
use Rattle.std.proofs.lemmas.List.Sums.{sum_by-cons}

-- the sum of the values of some entries
abbrev pub worth : {K : Type 0} → List (K × ℕ) → ℕ
worth {K} es = sum (map {A = K × ℕ} (λ e. e.1) es)

worth-cons : {K : Type 0} (e : K × ℕ) (es : List (K × ℕ)) → worth (e ∷ es) ≡ e.1 + worth es
worth-cons {K} e es = sum_by-cons (λ n. n) e.1 (map {A = K × ℕ} (λ x. x.1) es)

first_of_both : (a b : Bool) → T (a && b) → T a
first_of_both true b p = tt
first_of_both false b p = p

second_of_both : (a b : Bool) → T (a && b) → T b
second_of_both true b p = p
second_of_both false b p = absurd p

both : (a b : Bool) → T a → T b → T (a && b)
both true b p q = q
both false b p q = p

less_is : (o : Ordering) → T (is_lt o) → o ≡ Less
less_is Less p = refl
less_is Equal p = absurd p
less_is Greater p = absurd p

pub is_tie : (r : Ordering) → is_eq r ≡ true → r ≡ Equal
is_tie Less t = absurd (subst T (sym t) tt)
is_tie Equal t = refl
is_tie Greater t = absurd (subst T (sym t) tt)

module _ {K : Type 0} (R : K → K → Ordering) where
  -- the two ways of looking up are one
  pub find-lookup : {X : Type 0} (q : K) (es : List (K × X)) → find R q es ≡ lookup (λ k. is_eq (R q k)) es
  find-lookup q [] = refl
  find-lookup {X} q (e ∷ es) = ap (cond (eq_by_cmp R q e.0) (Some e.1)) (find-lookup q es)

-- what is said of one entry put in, where its key and the first key compare so
abbrev PutHolds : {K : Type 0} (R : K → K → Ordering) → K → ℕ → K × ℕ → List (K × ℕ) → Ordering → Type 0
PutHolds R k v e es r = worth (by_order r ((k, v) ∷ e ∷ es) ((e.0, v) ∷ es) (e ∷ put R k v es)) + unwrap_or (cond (is_eq r) (Some e.1) (find R k es)) 0 ≡ worth (e ∷ es) + v

module _ {K : Type 0} {R : K → K → Ordering} (o : IsTotalOrder R) where
  less_below : {X : Type 0} (x y : K) (es : List (K × X)) → R x y ≡ Less → T (below_all R y es) → T (below_all R x es)
  less_below x y [] p h = tt
  less_below x y (e ∷ es) p h =
      both _ _ (subst (λ r. T (is_lt r)) (sym (o.trans x y e.0 p (less_is _ (first_of_both _ _ h)))) tt) (less_below x y es p (second_of_both _ _ h))

  find_none : {X : Type 0} (q : K) (es : List (K × X)) → T (below_all R q es) → find R q es ≡ None
  find_none q [] h = refl
  find_none q (e ∷ es) h = ap (λ r. cond (is_eq r) (Some e.1) (find R q es)) (less_is _ (first_of_both _ _ h)) ∙ find_none q es (second_of_both _ _ h)

  -- one entry put in, in the place of the one that stood there
  worth-put : (k : K) (v : ℕ) (es : List (K × ℕ)) → T (is_sorted R es) → worth (put R k v es) + unwrap_or (find R k es) 0 ≡ worth es + v
  worth-put k v [] h = omega (arith, worth-cons (k, v) [])
  worth-put k v (e ∷ es) h =
      let rest : worth (put R k v es) + unwrap_or (find R k es) 0 ≡ worth es + v = worth-put k v es (second_of_both (below_all R e.0 es) (is_sorted R es) h) in
      elim (R k e.0) as (λ r. R k e.0 ≡ r → PutHolds R k v e es r) [
        | Less ↦ λ p.
            let none : unwrap_or (find R k es) 0 ≡ 0 = ap (λ o. unwrap_or o 0) (find_none k es (less_below k e.0 es p (first_of_both _ _ h))) in
            omega (arith, none, worth-cons (k, v) (e ∷ es))
        | Equal ↦ λ p. omega (arith, worth-cons (e.0, v) es, worth-cons e es)
        | Greater ↦ λ p. omega (arith, worth-cons e (put R k v es), worth-cons e es, rest)
      ] refl

  module _ {X : Type 0} where
    -- a key that isn't there may be taken out
    pub remove_absent : IsAntisymmetric R → (m : FinMap R X) (k : K) → get m k ≡ None → remove m k ≡ m
    remove_absent same m k none = same_map o same _ _ (λ q. get-remove o m k q ∙ at q (eq_by_cmp R q k) refl)
      where
        at : (q : K) (b : Bool) → eq_by_cmp R q k ≡ b → cond b None (get m q) ≡ get m q
        at q true t = sym (ap (get m) (same q k (is_tie _ t)) ∙ none)
        at q false t = refl

    -- to take an entry out and put it in again changes nothing
    pub put_back : IsAntisymmetric R → (m : FinMap R X) (k : K) (v : X) → get m k ≡ Some v → insert (remove m k) k v ≡ m
    put_back same m k v is = same_map o same _ _ (λ q. get-insert o (remove m k) k v q ∙ at q (eq_by_cmp R q k) refl)
      where
        at : (q : K) (b : Bool) → eq_by_cmp R q k ≡ b → cond b (Some v) (get (remove m k) q) ≡ get m q
        at q true t = sym (ap (get m) (same q k (is_tie _ t)) ∙ is)
        at q false t = get-remove o m k q ∙ ap (λ b. cond b None (get m q)) t

    -- the map of some entries, after one of their keys has another value or none
    pub inserted : IsAntisymmetric R → (es fs : List (K × X)) (k : K) (v : X)
        → ((q : K) → lookup (λ x. is_eq (R q x)) fs ≡ cond (is_eq (R k q)) (Some v) (lookup (λ x. is_eq (R q x)) es))
        → from_entries {R = R} fs ≡ insert (from_entries es) k v
    inserted same es fs k v is = same_map o same _ _ (λ q.
        get-from_entries o fs q ∙ find-lookup R q fs ∙ is q
        ∙ ap (λ b. cond b (Some v) (lookup (λ x. is_eq (R q x)) es)) ((eq_by_cmp_equiv o).symm k q)
        ∙ ap (cond (eq_by_cmp R q k) (Some v)) (sym (get-from_entries o es q ∙ find-lookup R q es))
        ∙ sym (get-insert o (from_entries es) k v q))

    pub removed : IsAntisymmetric R → (es fs : List (K × X)) (k : K)
        → ((q : K) → lookup (λ x. is_eq (R q x)) fs ≡ cond (is_eq (R k q)) None (lookup (λ x. is_eq (R q x)) es))
        → from_entries {R = R} fs ≡ remove (from_entries es) k
    removed same es fs k is = same_map o same _ _ (λ q.
        get-from_entries o fs q ∙ find-lookup R q fs ∙ is q
        ∙ ap (λ b. cond b None (lookup (λ x. is_eq (R q x)) es)) ((eq_by_cmp_equiv o).symm k q)
        ∙ ap (cond (eq_by_cmp R q k) None) (sym (get-from_entries o es q ∙ find-lookup R q es))
        ∙ sym (get-remove o (from_entries es) k q))

  -- the sum of a map
  abbrev pub sum_of : FinMap R ℕ → ℕ
  sum_of m = sum (values m)

  pub sum_of-insert : (m : FinMap R ℕ) (k : K) (v : ℕ) → sum_of (insert m k v) + unwrap_or (get m k) 0 ≡ sum_of m + v
  sum_of-insert m k v =
      let put_in : sum_of (insert m k v) ≡ worth (put R k v (entries m)) = ap worth (entries-insert o m k v) in
      let found : get m k ≡ find R k (entries m) = get-entries m k in
      let at : worth (put R k v (entries m)) + unwrap_or (find R k (entries m)) 0 ≡ worth (entries m) + v = worth-put k v (entries m) (entries_sorted m) in
      let same : unwrap_or (get m k) 0 ≡ unwrap_or (find R k (entries m)) 0 = ap (λ x. unwrap_or x 0) found in
      omega arith

  pub sum_of-remove : IsAntisymmetric R → (m : FinMap R ℕ) (k : K) → sum_of (remove m k) + unwrap_or (get m k) 0 ≡ sum_of m
  sum_of-remove same m k = at (get m k) refl
    where
      gone : get (remove m k) k ≡ None
      gone = get-remove o m k k ∙ ap (λ r. cond (is_eq r) None (get m k)) (tied_itself o k)

      at : (x : Option ℕ) → get m k ≡ x → sum_of (remove m k) + unwrap_or x 0 ≡ sum_of m
      at None is =
          let e : sum_of (remove m k) ≡ sum_of m = ap sum_of (remove_absent same m k is) in
          omega arith
      at (Some v) is =
          let back : sum_of (insert (remove m k) k v) ≡ sum_of m = ap sum_of (put_back same m k v is) in
          let none : unwrap_or (get (remove m k) k) 0 ≡ 0 = ap (λ x. unwrap_or x 0) gone in
          omega (arith, sum_of-insert (remove m k) k v)

  pub sum_of-empty : sum_of empty ≡ 0
  sum_of-empty = at (entries empty) (sym (len-entries empty) ∙ len-empty R ℕ)
    where
      at : (es : List (K × ℕ)) → length es ≡ 0 → worth es ≡ 0
      at [] e = refl
      at (x ∷ es) e = absurd (omega arith)

  -- no more than the sum of the entries that it was made of
  pub sum_of-le : (es : List (K × ℕ)) → sum_of (from_entries es) ≤ worth es
  sum_of-le [] = omega (arith, sum_of-empty)
  sum_of-le (e ∷ es) = omega (arith, sum_of-le es, sum_of-insert (from_entries es) e.0 e.1, worth-cons e es)
