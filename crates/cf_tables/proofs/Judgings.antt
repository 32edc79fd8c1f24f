-- Verdicts put in where none stands.
use Rattle.std.proofs.Common.{◌≡◌, ℕ, List, ◌+◌, ◌<◌, [], ◌∷◌, map, length, drop, get_or, suc, zero, arith, Option, Some, None, Bool, true, false, ◌&&◌, if◌then◌else◌, refl, sym, ◌∙◌, ap}
use Rattle.std.proofs.lemmas.Bool.{and_parts}
use Rattle.std.proofs.lemmas.List.{drop_more}
use Rattle.std.proofs.lemmas.Map.Text.{is_eq-slice_cmp}
use Rattle.std.specs.declared.cmp.Ordering.{Ordering}
use Rattle.std.specs.declared.cmp.Ordering.TheVariants.{Less, Equal, Greater}
use Rattle.std.specs.Ordering.{is_eq, nat_cmp, ordering_then}
use Rattle.std.specs.Cmp.Lexicographic.{slice_cmp}
use Rattle.cf_dispute.proofs.PutIn.{same_true}
use Rattle.cf_headers.specs.Rules.{same}
use Rattle.cf_match.specs.declared.job.Verdict.{Verdict}
use Rattle.cf_filter.specs.Filter.{filter_hash_of}
use Rattle.cf_match.specs.declared.job.Job.{Job}
use Rattle.cf_match.specs.Verdicts.{Verdicts, kept_or, is_of, verdict_of, with_verdict, with_verdicts, AreSameVerdicts}
use Rattle.cf_tables.specs.Judged.{put_one, with_one}

then_equal : (r s : Ordering) → is_eq (ordering_then r s) ≡ is_eq r && is_eq s
then_equal Less s = refl
then_equal Equal s = refl
then_equal Greater s = refl

pub both_same : (a b x y : List ℕ) → is_eq (ordering_then (slice_cmp nat_cmp a x) (slice_cmp nat_cmp b y)) ≡ same a x && same b y
unfolding same
both_same a b x y =
    then_equal (slice_cmp nat_cmp a x) (slice_cmp nat_cmp b y)
    ∙ ap (λ (t : Bool). t && is_eq (slice_cmp nat_cmp b y)) (is_eq-slice_cmp a x)
    ∙ ap (λ (t : Bool). same a x && t) (is_eq-slice_cmp b y)

here : (verdicts : Verdicts) (at of block filter : List ℕ) (o : Option Verdict) → verdicts at of ≡ o → same at block && same of filter ≡ true → verdicts block filter ≡ o
here verdicts at of block filter o e is1 =
    let parts = and_parts (same at block) (same of filter) is1 in
    ap (λ (h : List ℕ). verdicts h filter) (sym (same_true at block parts.0)) ∙ ap (verdicts at) (sym (same_true of filter parts.1)) ∙ e

-- where none stands there it is put in; where one stands nothing changes
pub put_fresh : (verdicts : Verdicts) (at of : List ℕ) (v : Verdict) → verdicts at of ≡ None → (block filter : List ℕ) → put_one at of v verdicts block filter ≡ with_one at of v verdicts block filter
put_fresh verdicts at of v none block filter = by (same at block && same of filter) (verdicts block filter) (here verdicts at of block filter None none) where
  by : (t : Bool) (o : Option Verdict) → (t ≡ true → o ≡ None) → (if t then Some v else o) ≡ (if t then Some (kept_or o v) else o)
  by true o is = ap (λ (w : Option Verdict). Some (kept_or w v)) (sym (is refl))
  by false o is = refl

pub kept_there : (verdicts : Verdicts) (at of : List ℕ) (v w : Verdict) → verdicts at of ≡ Some w → (block filter : List ℕ) → verdicts block filter ≡ with_one at of v verdicts block filter
kept_there verdicts at of v w some block filter = by (same at block && same of filter) (verdicts block filter) (here verdicts at of block filter (Some w) some) where
  by : (t : Bool) (o : Option Verdict) → (t ≡ true → o ≡ Some w) → o ≡ (if t then Some (kept_or o v) else o)
  by true o is = is refl ∙ ap (λ (x : Option Verdict). Some (kept_or x v)) (sym (is refl))
  by false o is = refl

-- a verdict that stood stands
kept_if : (b : Bool) (o : Option Verdict) (v w : Verdict) → o ≡ Some w → (if b then Some (kept_or o v) else o) ≡ Some w
kept_if true o v w e = ap (λ (x : Option Verdict). Some (kept_or x v)) e
kept_if false o v w e = e

pub put_more : (at of : List ℕ) (v : Verdict) (before after : Verdicts) → AreSameVerdicts after (with_one at of v before) → (block filter : List ℕ) (w : Verdict) → before block filter ≡ Some w → after block filter ≡ Some w
put_more at of v before after is block filter w e = is block filter ∙ kept_if (same at block && same of filter) (before block filter) v w e

-- the same verdicts lead to the same
same_one : (watch : List (List ℕ)) (job : Job) (a b : Verdicts) → AreSameVerdicts a b → AreSameVerdicts (with_verdict watch job a) (with_verdict watch job b)
same_one watch job a b is block hash = ap (λ (o : Option Verdict). if is_of job block hash then Some (kept_or o (verdict_of watch job)) else o) (is block hash)

pub same_all : (watch : List (List ℕ)) (jobs : List Job) (a b : Verdicts) → AreSameVerdicts a b → AreSameVerdicts (with_verdicts watch jobs a) (with_verdicts watch jobs b)
same_all watch [] a b is = is
same_all watch (job ∷ jobs) a b is = same_all watch jobs (with_verdict watch job a) (with_verdict watch job b) (same_one watch job a b is)

value_at : (f : Job → Verdict) (xs : List Job) (i : ℕ) (d : Job) (e : Verdict) → i < length xs → get_or (map f xs) i e ≡ f (get_or xs i d)
value_at f [] i d e lt = absurd (omega (arith, lt))
value_at f (x ∷ xs) zero d e lt = refl
value_at f (x ∷ xs) (suc i) d e lt = value_at f xs i d e (omega (arith, lt))

-- one verdict more
pub one_more : (watch : List (List ℕ)) (jobs : List Job) (vs : List Verdict) (i : ℕ) (job : Job) (hash : List ℕ) (e : Verdict) (before after : Verdicts) → vs ≡ map (verdict_of watch) jobs → i < length jobs
    → job ≡ get_or jobs i job → hash ≡ filter_hash_of job.filter → AreSameVerdicts after (with_one job.block.0 hash (get_or vs i e) before)
    → AreSameVerdicts (with_verdicts watch (drop (i + 1) jobs) after) (with_verdicts watch (drop i jobs) before)
one_more watch jobs vs i job hash e before after are lt at of put block filter =
    let v : get_or vs i e ≡ verdict_of watch job = ap (λ (xs : List Verdict). get_or xs i e) are ∙ value_at (verdict_of watch) jobs i job e lt ∙ ap (verdict_of watch) (sym at) in
    let put1 : AreSameVerdicts after (with_verdict watch job before) =
    λ b f. put b f ∙ ap (λ (x : Verdict). with_one job.block.0 hash x before b f) v ∙ ap (λ (x : List ℕ). with_one job.block.0 x (verdict_of watch job) before b f) of in
    let rest : drop i jobs ≡ job ∷ drop (i + 1) jobs = drop_more jobs i job lt ∙ ap (λ (x : Job). x ∷ drop (i + 1) jobs) (sym at) in
    same_all watch (drop (i + 1) jobs) after (with_verdict watch job before) put1 block filter
    ∙ sym (ap (λ (xs : List Job). with_verdicts watch xs before block filter) rest)
