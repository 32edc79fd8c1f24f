use Rattle.std.proofs.Common.{◌≡◌, ◌⊎◌, ◌∙◌, ℕ, Result, Ok, Err, IfOk, inl, inr, ap, arith}
use Rattle.cf_bytes.specs.Outside.{HasRisen}
use Rattle.cf_tasks.specs.Waiting.{Waiting}
use Rattle.cf_hub.proofs.hub.Hub.started.Goals as goal

on_ok : {T E : Type 0} (r : Result T E) (P Q : T → Type 0) → ((t : T) → P t → Q t) → IfOk r P → IfOk r Q
on_ok (Ok t) P Q f h = f t h
on_ok (Err e) P Q f h = h

-- as many threads of both kinds as were asked for, or a start was refused
all_or_risen : (r t : Waiting) (n was between now : ℕ) → ((r.count ≡ n) × (between ≡ was)) ⊎ HasRisen was between → ((t.count ≡ 1) × (now ≡ between)) ⊎ HasRisen between now
    → (r' t' : Waiting) → r' ≡ r → t' ≡ t → ((r'.count ≡ n) × (t'.count ≡ 1)) ⊎ HasRisen was now
all_or_risen r t n was between now a b r' t' e f = elim a [
  | inl x ↦ elim b [ inl y ↦ inl (ap (λ (w : Waiting). w.count) e ∙ x.0, ap (λ (w : Waiting). w.count) f ∙ y.0) | inr y ↦ (let s = x.1 in inr (omega (arith, s, y))) ]
  | inr x ↦ elim b [ inl y ↦ (let s = y.1 in inr (omega (arith, s, x))) | inr y ↦ inr (omega (arith, x, y)) ]
]

pub returns-clause-threads : goal.returns-clause-threads
returns-clause-threads g c = on_ok c.new.result _ _ (λ h e. all_or_risen _ _ _ _ _ _ c.in_ok-readers.ensures.cause c.in_ok-tickers.ensures.cause _ _ e.0 e.1) c.new.ensures.threads

pub returns-clause-fresh : goal.returns-clause-fresh
returns-clause-fresh g c = on_ok c.new.result _ _ (λ h e. (ap (λ (w : Waiting). w.returned) e.0 ∙ c.in_ok-readers.ensures.fresh, ap (λ (w : Waiting). w.returned) e.1 ∙ c.in_ok-tickers.ensures.fresh)) c.new.ensures.threads
