-- Tasks that are put to a spawner.
use Rattle.std.proofs.Common.{◌≡◌, ℕ, suc, ◌+◌, Bool, subst, arith}
use Rattle.cf_tasks.specs.Starting.{IsPut, ArePut}

-- one more
pub one_put : {K : Type 0} (moves : K → Bool → K → Type 0) (n : ℕ) (old last new : K) → ArePut moves n old last → IsPut moves last new → ArePut moves (n + 1) old new
one_put moves n old last new puts put =
    let more : suc n ≡ n + 1 = omega arith in
    subst (λ (m : ℕ). ArePut moves m old new) more (last, puts, put)
