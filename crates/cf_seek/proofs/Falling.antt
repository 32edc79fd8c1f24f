-- A mark that falls stands right below a block that hits.
use Rattle.std.proofs.Common.{arith, ◌≡◌, ℕ, ◌<◌, ◌≤◌, ◌+◌, ◌-◌, List, Option, Some, None, length, min, refl, sym, subst, ap, ◌∙◌, ◌⊎◌, inl, inr, slice_index_or, slice_set}
use Rattle.std.proofs.lemmas.Grind.{common_steps}
use Rattle.cf_headers.specs.Chain.{Chain}
use Rattle.cf_headers.specs.Heights.{hash_at, height_of}
use Rattle.cf_match.specs.declared.job.Job.{Job}
use Rattle.cf_match.specs.declared.job.Verdict.{Verdict}
use Rattle.cf_match.specs.declared.job.Verdict.TheVariants.{Hit, Miss}
use Rattle.cf_seek.specs.Cursors.{marks_at, passed_under}
use Rattle.cf_seek.specs.declared.cursors.Marks.{Marks}
use Rattle.cf_seek.specs.Seeking.{ArePassedHits, IsBelowAHit}
use Rattle.cf_seek.specs.Tracking.{IsFallen}

any_job : (jobs : List Job) (k : ℕ) (a b : Job) → k < length jobs → slice_index_or jobs k a ≡ slice_index_or jobs k b
any_job jobs k a b lt = grind (arith, common_steps)

any_verdict : (verdicts : List Verdict) (k : ℕ) (a b : Verdict) → k < length verdicts → slice_index_or verdicts k a ≡ slice_index_or verdicts k b
any_verdict verdicts k a b lt = grind (arith, common_steps)

pub lower_of : (a b : ℕ) → (min a b ≡ a) ⊎ (min a b ≡ b)
lower_of a b = grind (arith, common_steps)

less_or_same : (a b : ℕ) → a < b + 1 → (a < b) ⊎ (a ≡ b)
less_or_same a b lt = grind (arith, common_steps)

-- none of one more of the first blocks that hit stands up to a mark
step : (own : Chain) (from to : ℕ) (jobs : List Job) (verdicts : List Verdict) (count : ℕ) → ArePassedHits own from jobs verdicts count → to ≤ from
    → ((h : ℕ) → 1 ≤ h → h ≤ to → (d : Job) (v : Verdict) → slice_index_or verdicts count v ≡ Hit
    → hash_at own h ≡ (slice_index_or jobs count d).block.0 → ⊥)
    → count < length verdicts → ArePassedHits own to jobs verdicts (count + 1)
step own from to jobs verdicts count old low new judged h above up k d v within listed hit at = elim (less_or_same k count within) [
  | inl earlier ↦ old h above (omega (arith, up, low)) k d v earlier listed hit at
  | inr same ↦ new h above up d v (ap (λ (n : ℕ). slice_index_or verdicts n v) (sym same) ∙ hit)
      (at ∙ ap (λ (n : ℕ). (slice_index_or jobs n d).block.0) same)
]

-- after one more block that hits; after one that doesn't
pub past_a_hit : (own : Chain) (from to : ℕ) (jobs : List Job) (verdicts : List Verdict) (count : ℕ) (job : Job) → count < length jobs
    → count < length verdicts → job ≡ slice_index_or jobs count job → ArePassedHits own from jobs verdicts count → to ≤ from
    → ((h : ℕ) → 1 ≤ h → h ≤ to → hash_at own h ≡ job.block.0 → ⊥) → ArePassedHits own to jobs verdicts (count + 1)
past_a_hit own from to jobs verdicts count job listed judged is old low apart =
    step own from to jobs verdicts count old low
    (λ h above up d v hit at. apart h above up (at ∙ ap (λ (j : Job). j.block.0) (any_job jobs count d job listed ∙ sym is))) judged

pub past_no_hit : (own : Chain) (from : ℕ) (jobs : List Job) (verdicts : List Verdict) (count : ℕ) → count < length verdicts
    → (slice_index_or verdicts count Miss ≡ Hit → ⊥) → ArePassedHits own from jobs verdicts count → ArePassedHits own from jobs verdicts (count + 1)
past_no_hit own from jobs verdicts count judged off old =
    step own from from jobs verdicts count old (omega (arith)) (λ h above up d v hit at. off (any_verdict verdicts count Miss v judged ∙ hit)) judged

-- with one more block that hits, a mark stands where it stood, or right below that block
pub one_more : (own : Chain) (before from to : ℕ) (jobs : List Job) (verdicts : List Verdict) (k : ℕ) (job : Job)
    → k < length jobs → k < length verdicts → slice_index_or verdicts k Miss ≡ Hit → job ≡ slice_index_or jobs k job
    → to ≡ passed_under (height_of job.block.0 own) from → (from < before → IsBelowAHit own from jobs verdicts)
    → to < before → IsBelowAHit own to jobs verdicts
one_more own before from to jobs verdicts k job listed judged hit is e old low = by (height_of job.block.0 own) refl e where
  stays : to ≡ from → IsBelowAHit own to jobs verdicts
  stays same = subst (λ (n : ℕ). IsBelowAHit own n jobs verdicts) (sym same) (old (omega (arith, same, low)))

  by : (o : Option ℕ) → height_of job.block.0 own ≡ o → to ≡ passed_under o from → IsBelowAHit own to jobs verdicts
  by None at same = stays same
  by (Some height) at same = elim (lower_of from (height - 1)) [
    | inl first ↦ stays (same ∙ first)
    | inr second ↦ (
      k,
      height,
      listed,
      judged,
      (λ v. any_verdict verdicts k v Miss judged ∙ hit),
      (λ d. ap (λ (j : Job). height_of j.block.0 own) (any_job jobs k d job listed ∙ sym is) ∙ at),
      same ∙ second,
    )
  ]

-- a mark that fell as far as that; the others stay
pub fell : (chain : Option Chain) (own : Chain) (before after : Marks) (jobs : List Job) (verdicts : List Verdict)
    → ((there : Chain) → chain ≡ Some there → own ≡ there) → after.claimed ≡ before.claimed → after.sought ≡ before.sought → after.passed ≤ before.passed
    → ArePassedHits own after.passed jobs verdicts (length jobs) → (after.passed < before.passed → IsBelowAHit own after.passed jobs verdicts)
    → IsFallen chain before after jobs verdicts
fell chain own before after jobs verdicts mine claimed sought low apart tight = record {
  claimed = claimed;
  sought = sought;
  low = low;
  apart = λ there some. subst (λ (c : Chain). ArePassedHits c after.passed jobs verdicts (length jobs)) (mine there some) apart;
  tight = λ there some lower. subst (λ (c : Chain). IsBelowAHit c after.passed jobs verdicts) (mine there some) (tight lower);
}

-- marks that are put where marks of something passed stand
pub put_there : (cursors now : List Marks) (p : ℕ) (before to : Marks) → now ≡ slice_set cursors p to → before ≡ marks_at cursors p
    → (before.passed ≡ 0 → ⊥) → marks_at now p ≡ to
put_there cursors now p before to is there off = grind (arith, common_steps)
