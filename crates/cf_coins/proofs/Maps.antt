-- Ordered maps, as finite maps.
use Rattle.std.proofs.Common.{◌≡◌, cond, List, [], ◌∷◌, refl, sym, ◌∙◌, ap, Some, None}
use Rattle.std.specs.declared.cmp.Ordering.{Ordering}
use Rattle.std.specs.Ordering.{eq_by_cmp, is_eq}
use Rattle.std.specs.Map.{lookup}
use Rattle.std.specs.Cmp.{IsTotalOrder, eq_by_cmp_equiv}
use Rattle.std.specs.FinMap.{IsAntisymmetric, find, get, insert, remove, from_entries, get-insert, get-remove, get-from_entries, same_map}

module _ {K : Type 0} (R : K → K → Ordering) where
  -- the two ways of looking up are one
  pub find-lookup : {X : Type 0} (q : K) (es : List (K × X)) → find R q es ≡ lookup (λ k. is_eq (R q k)) es
  find-lookup q [] = refl
  find-lookup {X} q (e ∷ es) = ap (cond (eq_by_cmp R q e.0) (Some e.1)) (find-lookup q es)

module _ {K : Type 0} {R : K → K → Ordering} (o : IsTotalOrder R) {X : Type 0} where
  -- what is found under a key
  pub found : (es : List (K × X)) (q : K) → get (from_entries {R = R} es) q ≡ lookup (λ k. is_eq (R q k)) es
  found es q = get-from_entries o es q ∙ find-lookup R q es

  -- the map of some entries, after one of their keys has another value or none
  pub inserted : IsAntisymmetric R → (es fs : List (K × X)) (k : K) (v : X)
      → ((q : K) → lookup (λ x. is_eq (R q x)) fs ≡ cond (is_eq (R k q)) (Some v) (lookup (λ x. is_eq (R q x)) es))
      → from_entries {R = R} fs ≡ insert (from_entries es) k v
  inserted same es fs k v is = same_map o same _ _ (λ q.
      found fs q ∙ is q
      ∙ ap (λ b. cond b (Some v) (lookup (λ x. is_eq (R q x)) es)) ((eq_by_cmp_equiv o).symm k q)
      ∙ ap (cond (eq_by_cmp R q k) (Some v)) (sym (found es q))
      ∙ sym (get-insert o (from_entries es) k v q))

  pub removed : IsAntisymmetric R → (es fs : List (K × X)) (k : K)
      → ((q : K) → lookup (λ x. is_eq (R q x)) fs ≡ cond (is_eq (R k q)) None (lookup (λ x. is_eq (R q x)) es))
      → from_entries {R = R} fs ≡ remove (from_entries es) k
  removed same es fs k is = same_map o same _ _ (λ q.
      found fs q ∙ is q
      ∙ ap (λ b. cond b None (lookup (λ x. is_eq (R q x)) es)) ((eq_by_cmp_equiv o).symm k q)
      ∙ ap (cond (eq_by_cmp R q k) None) (sym (found es q))
      ∙ sym (get-remove o (from_entries es) k q))
