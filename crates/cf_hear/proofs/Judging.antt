-- What was judged, call by call.
use Rattle.std.proofs.Common.{◌≡◌, inl, inr, ℕ, zero, suc, List, refl, sym, ◌∙◌, subst}
use Rattle.std.specs.Prelude.{Ok}
use Rattle.cf_hear.specs.Judging.{Judges, Judging, IsUnjudged, HasJudged, IsJudgedBy, HasJudgedTimes, AreJudgedBy}

-- nothing was judged after what was
pub judged_still : {M : Type 0} (judges : Judges M) (watch : List (List ℕ)) (n : ℕ) (a b c : Judging M) → HasJudgedTimes judges watch n a b → IsUnjudged b c → HasJudgedTimes judges watch n a c
judged_still judges watch zero a b c times still = record { same = still.same ∙ times.same; kept = λ block hash. still.kept block hash ∙ times.kept block hash }
judged_still {M} judges watch (suc n) a b c times still = (
  times.0,
  times.1,
  record {
    jobs = times.2.jobs;
    answer = times.2.answer;
    judged = subst (λ (m : M). judges times.0.matcher times.2.jobs watch (Ok times.2.answer) m) (sym still.same) times.2.judged;
    kept = λ block hash. still.kept block hash ∙ times.2.kept block hash;
  },
)

pub judged_kept : {M : Type 0} (judges : Judges M) (watch : List (List ℕ)) (a b c : Judging M) → IsJudgedBy judges watch a b → IsUnjudged b c → IsJudgedBy judges watch a c
judged_kept judges watch a b c (inl none) still = inl (record { same = still.same ∙ none.same; kept = λ block hash. still.kept block hash ∙ none.kept block hash })
judged_kept {M} judges watch a b c (inr one) still = inr (record {
  jobs = one.jobs;
  answer = one.answer;
  judged = subst (λ (m : M). judges a.matcher one.jobs watch (Ok one.answer) m) (sym still.same) one.judged;
  kept = λ block hash. still.kept block hash ∙ one.kept block hash;
})

-- what one message more did
pub judged_then : {M : Type 0} (judges : Judges M) (watch now : List (List ℕ)) (a b c : Judging M) → AreJudgedBy judges watch a b → now ≡ watch → IsJudgedBy judges now b c → AreJudgedBy judges watch a c
judged_then judges watch now a b c all is (inl still) = (all.0, judged_still judges watch all.0 a b c all.1 still)
judged_then judges watch now a b c all is (inr one) = (suc all.0, (b, all.1, subst (λ (w : List (List ℕ)). HasJudged judges w b c) is one))

-- nothing was judged after what was
pub judged_still_all : {M : Type 0} (judges : Judges M) (watch : List (List ℕ)) (a b c : Judging M) → AreJudgedBy judges watch a b → IsUnjudged b c → AreJudgedBy judges watch a c
judged_still_all judges watch a b c all still = (all.0, judged_still judges watch all.0 a b c all.1 still)

-- nothing was judged
pub judged_none : {M : Type 0} (judges : Judges M) (watch : List (List ℕ)) (a : Judging M) → AreJudgedBy judges watch a a
judged_none judges watch a = (0, record { same = refl; kept = λ block hash. refl })
