-- Verdicts that hold what was given, with those on more filters.
use Rattle.std.proofs.Common.{◌≡◌, ◌⊎◌, inl, inr, ℕ, List, [], ◌∷◌, Option, Some, None, Bool, true, false, if◌then◌else◌, refl, sym, ◌∙◌, ap}
use Rattle.std.proofs.lemmas.Bool.{and_parts, and_from, both_ways}
use Rattle.cf_filter.specs.Filter.{filter_hash_of}
use Rattle.cf_headers.specs.Chain.{Hash, IsIn}
use Rattle.cf_headers.specs.Rules.{same}
use Rattle.cf_match.specs.declared.job.Job.{Job}
use Rattle.cf_match.specs.declared.job.Verdict.{Verdict}
use Rattle.cf_match.specs.Verdicts.{Verdicts, verdict_of, kept_or, is_of, with_verdict, with_verdicts, AreSameVerdicts}
use Rattle.cf_wires.specs.Log.{Log}
use Rattle.cf_sync.specs.Fetching.{IsGiven}
use Rattle.cf_holds.specs.Known.{HoldsGiven}
use Rattle.cf_sync.specs.Planned.{IsSameGiven}
use Rattle.cf_dispute.proofs.PutIn.{same_true, same_from}

-- a verdict on one of these filters, or one that stood before
abbrev IsOfOne : List (List ℕ) → List Job → Hash → Hash → Verdict → Type 0
IsOfOne watch jobs block hash v = (job : Job) × IsIn job jobs × (job.block.0 ≡ block) × (filter_hash_of job.filter ≡ hash) × (v ≡ verdict_of watch job)

this_or_old : (watch : List (List ℕ)) (job : Job) (verdicts : Verdicts) (block hash : Hash) (v : Verdict) → with_verdict watch job verdicts block hash ≡ Some v
    → ((is_of job block hash ≡ true) × (v ≡ verdict_of watch job)) ⊎ (verdicts block hash ≡ Some v)
this_or_old watch job verdicts block hash v e = by (is_of job block hash) (verdicts block hash) refl e where
  by : (b : Bool) (o : Option Verdict) → is_of job block hash ≡ b → (if b then Some (kept_or o (verdict_of watch job)) else o) ≡ Some v → ((is_of job block hash ≡ true) × (v ≡ verdict_of watch job)) ⊎ (o ≡ Some v)
  by true None is f = inl (is, (let one : verdict_of watch job ≡ v = cc in sym one))
  by true (Some w) is f = inr f
  by false o is f = inr f

found_in : (watch : List (List ℕ)) (jobs : List Job) (verdicts : Verdicts) (block hash : Hash) (v : Verdict) → with_verdicts watch jobs verdicts block hash ≡ Some v
    → IsOfOne watch jobs block hash v ⊎ (verdicts block hash ≡ Some v)
found_in watch [] verdicts block hash v e = inr e
found_in watch (job ∷ jobs) verdicts block hash v e = elim (found_in watch jobs (with_verdict watch job verdicts) block hash v e) [
  | inl w ↦ inl (w.0, inr w.1, w.2, w.3, w.4)
  | inr now ↦ elim (this_or_old watch job verdicts block hash v now) [
    | inl this ↦ (
        let parts = and_parts (same job.block.0 block) (same (filter_hash_of job.filter) hash) this.0 in
        inl (job, inl refl, same_true job.block.0 block parts.0, same_true (filter_hash_of job.filter) hash parts.1, this.1)
        )
    | inr old ↦ inr old
  ]
]

none_now : (watch : List (List ℕ)) (job : Job) (verdicts : Verdicts) (block hash : Hash) → with_verdict watch job verdicts block hash ≡ None → (verdicts block hash ≡ None) × (is_of job block hash ≡ false)
none_now watch job verdicts block hash e = by (is_of job block hash) (verdicts block hash) refl e where
  by : (b : Bool) (o : Option Verdict) → is_of job block hash ≡ b → (if b then Some (kept_or o (verdict_of watch job)) else o) ≡ None → (o ≡ None) × (is_of job block hash ≡ false)
  by true o is f = cc
  by false o is f = (f, is)

missing_in : (watch : List (List ℕ)) (jobs : List Job) (verdicts : Verdicts) (block hash : Hash) → with_verdicts watch jobs verdicts block hash ≡ None
    → (verdicts block hash ≡ None) × ((job : Job) → IsIn job jobs → job.block.0 ≡ block → filter_hash_of job.filter ≡ hash → ⊥)
missing_in watch [] verdicts block hash e = (e, λ job i f g. i)
missing_in watch (first ∷ jobs) verdicts block hash e =
    let w = missing_in watch jobs (with_verdict watch first verdicts) block hash e in
    let n = none_now watch first verdicts block hash w.0 in (
      n.0,
      λ job i f g. elim i [
        | inl one ↦ both_ways (is_of first block hash) n.1
            (and_from (same first.block.0 block) (same (filter_hash_of first.filter) hash)
            (same_from first.block.0 block (sym (ap (λ (j : Job). j.block.0) one) ∙ f)) (same_from (filter_hash_of first.filter) hash (sym (ap (λ (j : Job). filter_hash_of j.filter) one) ∙ g)))
        | inr later ↦ w.1 job later f g
      ],
    )

-- where in a later log these filters were given besides, the verdicts are to be those with these filters'
pub grown_given : (watch : List (List ℕ)) (log later : Log) (jobs : List Job) (before after : Verdicts) → ((job : Job) → IsIn job jobs → IsGiven later job)
    → ((job : Job) → IsGiven log job → IsGiven later job) → ((job : Job) → IsGiven later job → IsGiven log job ⊎ IsIn job jobs)
    → AreSameVerdicts after (with_verdicts watch jobs before) → HoldsGiven watch log before → HoldsGiven watch later after
grown_given watch log later jobs before after fresh stays comes alike holds = record {
  sound = λ block hash v e. elim (found_in watch jobs before block hash v (sym (alike block hash) ∙ e)) [
    | inl w ↦ (w.0, fresh w.0 w.1, w.2, w.3, w.4)
    | inr old ↦ (let w = holds.sound block hash v old in (w.0, stays w.0 w.1, w.2, w.3, w.4))
  ];
  complete = λ block hash e got.
      let w = missing_in watch jobs before block.0 hash.0 (sym (alike block.0 hash.0) ∙ e) in
      elim (comes got.0 got.1) [
        | inl old ↦ holds.complete block hash w.0 (got.0, old, got.2, got.3)
        | inr new ↦ w.1 got.0 new got.2 got.3
      ];
}

-- the same filters were given
pub same_given : (watch : List (List ℕ)) (log later : Log) (before after : Verdicts) → IsSameGiven log later → AreSameVerdicts after before
    → HoldsGiven watch log before → HoldsGiven watch later after
same_given watch log later before after same1 alike holds = record {
  sound = λ block hash v e. (let w = holds.sound block hash v (sym (alike block hash) ∙ e) in (w.0, (same1 w.0).0 w.1, w.2, w.3, w.4));
  complete = λ block hash e got. holds.complete block hash (sym (alike block.0 hash.0) ∙ e) (got.0, (same1 got.0).1 got.1, got.2, got.3);
}
