-- What a verdict says.
use Rattle.std.proofs.Common.{◌≡◌, ◌≤◌, ℕ, Bool, true, false, if◌then◌else◌, List, [], ◌∷◌, length, Contains, Option, Some, None, Result, Ok, Err, refl, ◌∙◌, ap}
use Rattle.cf_bytes.specs.Cut.{IsBytes}
use Rattle.cf_bytes.specs.declared.hash.Hash32.{Hash32}
use Rattle.cf_golomb.specs.declared.fault.SetFault.{SetFault}
use Rattle.cf_golomb.specs.Code.{HasSpelling, spelling, set_at}
use Rattle.cf_golomb.specs.Meets.{answer_by}
use Rattle.cf_golomb.proofs.AgainLemmas.{set_again}
use Rattle.cf_golomb.proofs.OnlyLemmas.{set_taken}
use Rattle.cf_filter.specs.Filter.{basic_filter_of, has_value_of, match_of}
use Rattle.cf_filter.proofs.Values.{no_member}
use Rattle.cf_match.specs.declared.job.Job.{Job}
use Rattle.cf_match.specs.declared.job.Verdict.{Verdict}
use Rattle.cf_match.specs.declared.job.Verdict.TheVariants.{Miss, Hit}
use Rattle.cf_match.specs.Verdicts.{Verdicts, is_miss, verdict_of, is_of, kept_or, with_verdict, with_verdicts}

missed_false : (r : Result Bool SetFault) → (if is_miss r then Miss else Hit) ≡ Miss → r ≡ Ok false
missed_false (Ok false) e = refl
missed_false (Ok true) e = absurd (let no : Hit ≡ Miss = e in cc)
missed_false (Err f) e = absurd (let no : Hit ≡ Miss = e in cc)

answered : (f : List ℕ → Bool) (r : Result (List ℕ) SetFault) → answer_by f r ≡ Ok false → (values : List ℕ) × (r ≡ Ok values) × (f values ≡ false)
answered f (Ok values) e = (values, refl, let both : Ok (f values) ≡ Ok false = e in cc)
answered f (Err fault) e = absurd (let no : Err fault ≡ Ok false = e in cc)

pub missed : (watch : List (List ℕ)) (job : Job) → IsBytes job.filter → verdict_of watch job ≡ Miss → (values : List ℕ) × (HasSpelling values) × (job.filter ≡ spelling values) × (has_value_of job.block.0 watch values ≡ false)
unfolding match_of
missed watch job fits e =
    let got = answered (has_value_of job.block.0 watch) (set_at job.filter) (missed_false (match_of job.block.0 watch job.filter) e) in
    let taken = set_taken job.filter got.0 fits got.1 in
    (got.0, taken.0, taken.1, got.2)

pub misses_so : (watch : List (List ℕ)) (job : Job) (values : List ℕ) → HasSpelling values → job.filter ≡ spelling values → has_value_of job.block.0 watch values ≡ false → verdict_of watch job ≡ Miss
unfolding match_of
misses_so watch job values has is none =
    let read : set_at job.filter ≡ Ok values = ap set_at is ∙ set_again values has in
    let said : match_of job.block.0 watch job.filter ≡ Ok false = ap (λ r. answer_by (has_value_of job.block.0 watch) r) read ∙ ap (λ (b : Bool). Ok b) none in
    ap (λ (r : Result Bool SetFault). if is_miss r then Miss else Hit) said

pub none_of : (watch items : List (List ℕ)) (block : Hash32) (script : List ℕ) → length items ≤ 33554432 → verdict_of watch (record { block = block; filter = basic_filter_of block.0 items }) ≡ Miss → Contains watch script → Contains items script → ⊥
none_of watch items block script few e asked item = no_member block.0 items watch script few (missed_false (match_of block.0 watch (basic_filter_of block.0 items)) e) asked item

kept : (o : Option Verdict) (v w : Verdict) → o ≡ Some v → Some (kept_or o w) ≡ Some v
kept None v w e = absurd (let no : None ≡ Some v = e in cc)
kept (Some x) v w e = e

stays_once : (watch : List (List ℕ)) (job : Job) (verdicts : Verdicts) (block hash : List ℕ) (v : Verdict) → verdicts block hash ≡ Some v → with_verdict watch job verdicts block hash ≡ Some v
stays_once watch job verdicts block hash v e = by_this (is_of job block hash) where
  by_this : (b : Bool) → (if b then Some (kept_or (verdicts block hash) (verdict_of watch job)) else verdicts block hash) ≡ Some v
  by_this true = kept (verdicts block hash) v (verdict_of watch job) e
  by_this false = e

pub stays : (watch : List (List ℕ)) (jobs : List Job) (verdicts : Verdicts) (block hash : List ℕ) (v : Verdict) → verdicts block hash ≡ Some v → with_verdicts watch jobs verdicts block hash ≡ Some v
stays watch [] verdicts block hash v e = e
stays watch (job ∷ jobs) verdicts block hash v e = stays watch jobs (with_verdict watch job verdicts) block hash v (stays_once watch job verdicts block hash v e)
