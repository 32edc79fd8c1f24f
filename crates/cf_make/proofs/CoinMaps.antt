-- What stands in a map of coins after one is put in or taken out.
use Rattle.std.proofs.Common.{◌≡◌, cond, Bool, true, false, refl, sym, ◌∙◌, ap, subst, Option, Some, None, ◌⊎◌, inl, inr}
use Rattle.std.specs.Prelude.{is_some, IsTrue}
use Rattle.std.specs.Ordering.{eq_by_cmp}
use Rattle.std.specs.Cmp.{eq_by_cmp_equiv}
use Rattle.std.specs.FinMap.{get, insert, remove, get-insert, get-remove}
use Rattle.cf_block.specs.declared.tx.OutPoint.{OutPoint}
use Rattle.cf_block.specs.Output.{Output}
use Rattle.cf_block.specs.Outpoint.{outpoint_cmp}
use Rattle.cf_chain.specs.Coins.{CoinMap}
use Rattle.cf_block.proofs.Outpoints.{outpoint_total, same_name}

abbrev pub Stands : CoinMap → OutPoint → Type 0
Stands coins p = IsTrue (is_some (get coins p))

pub put_stands : (m : CoinMap) (k : OutPoint) (v : Output) → Stands (insert m k v) k
put_stands m k v =
    let is : get (insert m k v) k ≡ Some v = get-insert outpoint_total m k v k ∙ ap (λ (b : Bool). cond b (Some v) (get m k)) ((eq_by_cmp_equiv outpoint_total).refl k) in
    subst (λ (x : Option Output). IsTrue (is_some x)) (sym is) refl

some_still : (b : Bool) (v : Output) (x : Option Output) → IsTrue (is_some x) → IsTrue (is_some (cond b (Some v) x))
some_still true v x h = refl
some_still false v x h = h

pub put_keeps : (m : CoinMap) (k : OutPoint) (v : Output) (p : OutPoint) → Stands m p → Stands (insert m k v) p
put_keeps m k v p h =
    subst (λ (x : Option Output). IsTrue (is_some x)) (sym (get-insert outpoint_total m k v p)) (some_still (eq_by_cmp outpoint_cmp p k) v (get m p) h)

-- what stands after one was put in is that one, or stood before
pub put_was : (m : CoinMap) (k : OutPoint) (v : Output) (p : OutPoint) → Stands (insert m k v) p → (p ≡ k) ⊎ Stands m p
put_was m k v p h =
    let g : IsTrue (is_some (cond (eq_by_cmp outpoint_cmp p k) (Some v) (get m p))) = subst (λ (x : Option Output). IsTrue (is_some x)) (get-insert outpoint_total m k v p) h in
    elim (eq_by_cmp outpoint_cmp p k) as (λ b. eq_by_cmp outpoint_cmp p k ≡ b → IsTrue (is_some (cond b (Some v) (get m p))) → (p ≡ k) ⊎ Stands m p) [
      | true ↦ λ e g. inl (same_name p k e)
      | false ↦ λ e g. inr g
    ] refl g

pub take_was : (m : CoinMap) (k p : OutPoint) → Stands (remove m k) p → Stands m p
take_was m k p h =
    let g : IsTrue (is_some (cond (eq_by_cmp outpoint_cmp p k) None (get m p))) = subst (λ (x : Option Output). IsTrue (is_some x)) (get-remove outpoint_total m k p) h in
    elim (eq_by_cmp outpoint_cmp p k) as (λ b. IsTrue (is_some (cond b None (get m p))) → Stands m p) [ true ↦ λ g. cc | false ↦ λ g. g ] g

-- another one stays when one is taken out
pub take_keeps : (m : CoinMap) (k p : OutPoint) → (p ≡ k → ⊥) → Stands m p → Stands (remove m k) p
take_keeps m k p apart h =
    let g : IsTrue (is_some (cond (eq_by_cmp outpoint_cmp p k) None (get m p))) =
    elim (eq_by_cmp outpoint_cmp p k) as (λ b. eq_by_cmp outpoint_cmp p k ≡ b → IsTrue (is_some (cond b None (get m p)))) [
      | true ↦ λ e. absurd (apart (same_name p k e))
      | false ↦ λ e. h
    ] refl in
    subst (λ (x : Option Output). IsTrue (is_some x)) (sym (get-remove outpoint_total m k p)) g

-- nothing stands where it can't
pub none_stands : (m : CoinMap) (p : OutPoint) → (Stands m p → ⊥) → get m p ≡ None
none_stands m p not = none_at (get m p) not where
  none_at : (x : Option Output) → (IsTrue (is_some x) → ⊥) → x ≡ None
  none_at None not = refl
  none_at (Some v) not = absurd (not refl)
