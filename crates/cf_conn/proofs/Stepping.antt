-- Steps that lead from one state to another.
use Rattle.std.proofs.Common.{◌≡◌, ◌⊎◌, inl, inr, ℕ, zero, suc, refl, sym, ap, subst}
use Rattle.cf_conn.specs.Steps.{StepsIn, Steps}

pub no_steps : {S : Type 0} (step : S → S → Type 0) (s : S) → Steps step s s
unfolding StepsIn
no_steps step s = record { count = 0; each = refl }

more_in : {S : Type 0} (step : S → S → Type 0) (n : ℕ) (a b c : S) → StepsIn step n a b → step b c → StepsIn step (suc n) a c
unfolding StepsIn
more_in {S} step zero a b c same then = (c, subst (λ (s : S). step s c) same then, refl)
more_in {S} step (suc n) a b c steps then = (steps.0, steps.1, more_in step n steps.0 b c steps.2 then)

pub one_step : {S : Type 0} (step : S → S → Type 0) (a b c : S) → Steps step a b → step b c → Steps step a c
one_step step a b c so_far then = record { count = suc so_far.count; each = more_in step so_far.count a b c so_far.each then }

pub first_step : {S : Type 0} (step : S → S → Type 0) (a b : S) → step a b → Steps step a b
first_step step a b then = one_step step a a b (no_steps step a) then

-- one step more, or none
pub maybe_step : {S : Type 0} (step : S → S → Type 0) (a b c : S) → Steps step a b → step b c ⊎ (c ≡ b) → Steps step a c
maybe_step step a b c so_far (inl then) = one_step step a b c so_far then
maybe_step {S} step a b c so_far (inr same) = subst (λ (s : S). Steps step a s) (sym same) so_far

joined_in : {S : Type 0} (step : S → S → Type 0) (n m : ℕ) (a b c : S) → StepsIn step n a b → Steps step b c → Steps step a c
unfolding StepsIn
joined_in {S} step zero m a b c same later = subst (λ (s : S). Steps step s c) same later
joined_in {S} step (suc n) m a b c steps later =
    let rest : Steps step steps.0 c = joined_in step n m steps.0 b c steps.2 later in
    record { count = suc rest.count; each = (steps.0, steps.1, rest.each) }

pub more_steps : {S : Type 0} (step : S → S → Type 0) (a b c : S) → Steps step a b → Steps step b c → Steps step a c
more_steps step a b c so_far later = joined_in step so_far.count later.count a b c so_far.each later

-- what each step leaves alone stays, and what it does is done step by step
pub kept : {S : Type 0} (step : S → S → Type 0) (P : S → Type 0) → ((a b : S) → step a b → P a → P b) → (a b : S) → Steps step a b → P a → P b
unfolding StepsIn
kept {S} step P keeps a b steps is = kept_in steps.count a steps.each is
  where
    kept_in : (n : ℕ) (a : S) → StepsIn step n a b → P a → P b
    kept_in zero a same is = subst P (sym same) is
    kept_in (suc n) a more is = kept_in n more.0 more.2 (keeps a more.0 more.1 is)

-- what each step does to what stands on the states
pub mapped : {S F : Type 0} (step : S → S → Type 0) (other : F → F → Type 0) (at : S → F) → ((a b : S) → step a b → other (at a) (at b)) → (a b : S) → Steps step a b → Steps other (at a) (at b)
unfolding StepsIn
mapped {S} {F} step other at each a b steps = record { count = steps.count; each = mapped_in steps.count a steps.each }
  where
    mapped_in : (n : ℕ) (a : S) → StepsIn step n a b → StepsIn other n (at a) (at b)
    mapped_in zero a same = ap at same
    mapped_in (suc n) a more = (at more.0, each a more.0 more.1, mapped_in n more.0 more.2)

-- no step, one more, or perhaps one more
pub ruleset steps = (no_steps, one_step, maybe_step)
