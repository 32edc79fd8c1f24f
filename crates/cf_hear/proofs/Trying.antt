-- What is kept of tests, message by message.
use Rattle.std.proofs.Common.{◌≡◌, ◌≢◌, ◌⊎◌, inl, inr, ℕ, List, [], ◌∷◌, ◌++◌, length, get_or, Bool, true, false, ◌&&◌, if◌then◌else◌, Option, Some, refl, sym, ◌∙◌, ap, subst, arith}
use Rattle.std.proofs.lemmas.List.{append-nil}
use Rattle.cf_block.specs.declared.tx.Block.{Block}
use Rattle.cf_block.specs.Header.{block_hash_of}
use Rattle.cf_filter.specs.Filter.{filter_hash_of}
use Rattle.cf_filter.specs.Lacking.{output_items_of}
use Rattle.cf_headers.specs.Chain.{Hash}
use Rattle.cf_headers.specs.Rules.{same}
use Rattle.cf_match.specs.declared.job.Job.{Job}
use Rattle.cf_msg.specs.declared.msg.Msg.{Msg}
use Rattle.cf_peer.specs.Asking.{OpenRequest, NothingOpen, fetched_by, given_by, request_after}
use Rattle.cf_tables.specs.Outputs.{Paid, lacks_kept, put_outputs}
use Rattle.cf_tables.specs.Tests.{IsSameTold, found_too, with_test}
use Rattle.cf_tables.specs.Known.{TestResults}
use Rattle.cf_tables.specs.Trials.{IsSameTrials, Trials, TrialsGo, tested_if, with_found, with_paid}
use Rattle.cf_sync.proofs.Idle.{no_block, no_filter, nothing_after}
use Rattle.cf_holds.proofs.KeptAims.{brings_said}

-- ---- the same is kept

pub trials_self : (s : Trials) → IsSameTrials s s
trials_self s = record { paid = λ hash. refl; told = λ block filter. refl; aims = λ p. refl }

-- ---- what tests find

none_tested : (aim : Bool) (paid : Paid) (told : TestResults) → IsSameTold told (tested_if aim paid [] told)
none_tested true paid told block filter = refl
none_tested false paid told block filter = refl

-- it depends on what is kept alone
found_alike : (paid now : Paid) (job : Job) (told new : TestResults) → ((hash : Hash) → now hash ≡ paid hash) → IsSameTold new told → IsSameTold (with_found now job new) (with_found paid job told)
found_alike paid now job told new p t block filter =
    ap (λ (lacks : Bool). with_test job.block.0 (filter_hash_of job.filter) lacks new block filter) (ap (lacks_kept job.block.0 job.filter) (p job.block.0))
    ∙ ap (λ (o : Option Bool). if same job.block.0 block && same (filter_hash_of job.filter) filter then Some (found_too o (lacks_kept job.block.0 job.filter (paid job.block.0))) else o) (t block filter)

pub tested_alike : (aim other : Bool) (paid now : Paid) (jobs : List Job) (told new : TestResults) → other ≡ aim → ((hash : Hash) → now hash ≡ paid hash) → IsSameTold new told
    → IsSameTold (tested_if other now jobs new) (tested_if aim paid jobs told)
tested_alike aim other paid now jobs told new e p t =
    subst (λ (x : Bool). IsSameTold (tested_if x now jobs new) (tested_if aim paid jobs told)) (sym e) (by aim jobs) where
      by : (x : Bool) (js : List Job) → IsSameTold (tested_if x now js new) (tested_if x paid js told)
      by false js = t
      by true [] = t
      by true (job ∷ []) = found_alike paid now job told new p t
      by true (job ∷ next ∷ js) = t

-- by what the code does
pub tested_more : (paid : Paid) (jobs : List Job) (told : TestResults) → length jobs ≢ 1 → IsSameTold told (tested_if true paid jobs told)
tested_more paid [] told ne = λ block filter. refl
tested_more paid (job ∷ []) told ne = absurd (ne refl)
tested_more paid (job ∷ next ∷ jobs) told ne = λ block filter. refl

pub tested_one : (paid : Paid) (jobs : List Job) (job : Job) (told now : TestResults) → length jobs ≡ 1 → job ≡ get_or jobs 0 job → IsSameTold now (with_found paid job told)
    → IsSameTold now (tested_if true paid jobs told)
tested_one paid [] job told now one is t = absurd (omega (arith, one))
tested_one paid (x ∷ []) job told now one is t = subst (λ (j : Job). IsSameTold now (with_found paid j told)) is t
tested_one paid (x ∷ y ∷ jobs) job told now one is t = absurd (omega (arith, one))

-- ---- what came

pub go_none : (before after : Trials) (p : ℕ) → IsSameTrials before after → TrialsGo before after p [] []
go_none before after p x = record {
  paid = x.paid;
  told = λ block filter. x.told block filter ∙ none_tested (before.aims p) before.paid before.told block filter;
  aims = x.aims;
}

pub go_self : (s : Trials) (p : ℕ) → TrialsGo s s p [] []
go_self s p = go_none s s p (trials_self s)

-- a block
pub go_taken : (a b c : Trials) (p : ℕ) (taken : Block) (hash : Hash) → hash ≡ block_hash_of taken.header
    → ((at : Hash) → b.paid at ≡ put_outputs hash (output_items_of taken) a.paid at) → IsSameTold b.told a.told → ((q : ℕ) → b.aims q ≡ a.aims q) → IsSameTrials b c → TrialsGo a c p (taken ∷ []) []
go_taken a b c p taken hash is paid told aims y = record {
  paid = λ at. y.paid at ∙ paid at ∙ ap (λ (h : Hash). put_outputs h (output_items_of taken) a.paid at) is;
  told = λ block filter. y.told block filter ∙ told block filter ∙ none_tested (a.aims p) a.paid a.told block filter;
  aims = λ q. y.aims q ∙ aims q;
}

-- filters
pub go_given : (a b c d : Trials) (p : ℕ) (read jobs : List Job) → read ≡ jobs → IsSameTrials a b → ((hash : Hash) → c.paid hash ≡ b.paid hash)
    → IsSameTold c.told (tested_if (b.aims p) b.paid read b.told) → ((q : ℕ) → c.aims q ≡ b.aims q) → IsSameTrials c d → TrialsGo a d p [] jobs
go_given a b c d p read jobs is x paid told aims y = record {
  paid = λ hash. y.paid hash ∙ paid hash ∙ x.paid hash;
  told = λ block filter. y.told block filter ∙ told block filter ∙ tested_alike (a.aims p) (b.aims p) a.paid b.paid read a.told b.told (x.aims p) x.paid x.told block filter
      ∙ ap (λ (js : List Job). tested_if (a.aims p) a.paid js a.told block filter) is;
  aims = λ q. y.aims q ∙ aims q ∙ x.aims q;
}

-- ---- one after the other

paid_append : (more news : List Block) (now before : Paid) → ((hash : Hash) → now hash ≡ with_paid news before hash) → (hash : Hash) → with_paid more now hash ≡ with_paid (more ++ news) before hash
paid_append [] news now before is = is
paid_append (b ∷ more) news now before is =
    λ hash. ap (λ (o : Option (List (List ℕ))). put_outputs (block_hash_of b.header) (output_items_of b) (λ (h : Hash). o) hash) (paid_append more news now before is hash)

-- nothing came before, or nothing comes after
abbrev pub IsOnce : List Block → List Job → List Block → List Job → Type 0
IsOnce news jobs more later = ((news ≡ []) × (jobs ≡ [])) ⊎ ((more ≡ []) × (later ≡ []))

pub go_then : (a b c : Trials) (p : ℕ) (news more : List Block) (jobs later : List Job) → IsOnce news jobs more later → TrialsGo a b p news jobs → TrialsGo b c p more later
    → TrialsGo a c p (more ++ news) (jobs ++ later)
go_then a b c p news more jobs later once x y = record {
  paid = λ hash. y.paid hash ∙ paid_append more news b.paid a.paid x.paid hash;
  told = by once;
  aims = λ q. y.aims q ∙ x.aims q;
} where
  by : IsOnce news jobs more later → IsSameTold c.told (tested_if (a.aims p) a.paid (jobs ++ later) a.told)
  by (inl none) = λ block filter.
      let paid : (hash : Hash) → b.paid hash ≡ a.paid hash = λ hash. x.paid hash ∙ ap (λ (bs : List Block). with_paid bs a.paid hash) none.0 in
      let told : IsSameTold b.told a.told = λ at of.
      x.told at of ∙ ap (λ (js : List Job). tested_if (a.aims p) a.paid js a.told at of) none.1 ∙ sym (none_tested (a.aims p) a.paid a.told at of) in
      y.told block filter ∙ tested_alike (a.aims p) (b.aims p) a.paid b.paid later a.told b.told (x.aims p) paid told block filter
      ∙ ap (λ (js : List Job). tested_if (a.aims p) a.paid (js ++ later) a.told block filter) (sym none.1)
  by (inr none) = λ block filter.
      y.told block filter ∙ ap (λ (js : List Job). tested_if (b.aims p) b.paid js b.told block filter) none.1 ∙ sym (none_tested (b.aims p) b.paid b.told block filter)
      ∙ x.told block filter
      ∙ ap (λ (js : List Job). tested_if (a.aims p) a.paid js a.told block filter) (sym (append-nil jobs) ∙ ap (λ (js : List Job). jobs ++ js) (sym none.1))

pub go_on : (a b c : Trials) (p : ℕ) (news : List Block) (jobs : List Job) → TrialsGo a b p news jobs → IsSameTrials b c → TrialsGo a c p news jobs
go_on a b c p news jobs x y = record {
  paid = λ hash. y.paid hash ∙ x.paid hash;
  told = λ block filter. y.told block filter ∙ x.told block filter;
  aims = λ q. y.aims q ∙ x.aims q;
}

-- ---- what a message brings once

-- with nothing open a message brings nothing; and one that brings something leaves nothing open
pub once_by : (m : Msg) (r : OpenRequest) (news : List Block) (jobs : List Job) → ((news ≡ []) × (jobs ≡ [])) ⊎ (r ≡ NothingOpen) → IsOnce news jobs (fetched_by m r) (given_by m r)
once_by m r news jobs (inl none) = inl none
once_by m r news jobs (inr idle) = inr (ap (fetched_by m) idle ∙ no_block m, ap (given_by m) idle ∙ no_filter m)

pub idle_by : (m : Msg) (r : OpenRequest) (news : List Block) (jobs : List Job) → ((news ≡ []) × (jobs ≡ [])) ⊎ (r ≡ NothingOpen)
    → ((fetched_by m r ++ news ≡ []) × (jobs ++ given_by m r ≡ [])) ⊎ (request_after m r ≡ NothingOpen)
idle_by m r news jobs (inr idle) = inr (ap (request_after m) idle ∙ nothing_after m)
idle_by m r news jobs (inl none) = elim (brings_said m r) [
  | inl nothing ↦ inl (
    ap (λ (bs : List Block). bs ++ news) nothing.0 ∙ none.0,
    ap (λ (js : List Job). js ++ given_by m r) none.1 ∙ nothing.1,
  )
  | inr ends ↦ inr ends.0
]

-- the filters in their order
pub gives_on : (now jobs old : List Job) → (jobs ≡ []) ⊎ (now ≡ []) → now ++ (jobs ++ old) ≡ (jobs ++ now) ++ old
gives_on now jobs old (inl none) =
    ap (λ (js : List Job). now ++ (js ++ old)) none ∙ ap (λ (js : List Job). (js ++ now) ++ old) (sym none)
gives_on now jobs old (inr none) =
    ap (λ (js : List Job). js ++ (jobs ++ old)) none ∙ ap (λ (js : List Job). js ++ old) (sym (append-nil jobs))
    ∙ ap (λ (js : List Job). (jobs ++ js) ++ old) (sym none)

pub one_empty : (news more : List Block) (jobs now : List Job) → IsOnce news jobs more now → (jobs ≡ []) ⊎ (now ≡ [])
one_empty news more jobs now (inl none) = inl none.1
one_empty news more jobs now (inr none) = inr none.1
