-- Whom a message exposes.
use Rattle.std.proofs.Common.{◌≡◌, ◌≢◌, ◌⊎◌, inl, inr, ℕ, List, [], ◌∷◌, Bool, true, false, ◌&&◌, if◌then◌else◌, Option, Some, None, refl, sym, ◌∙◌, ap, subst}
use Rattle.std.proofs.lemmas.Bool.{cases_Bool, cases_eq, and_parts}
use Rattle.cf_bytes.specs.declared.hash.Hash32.{Hash32}
use Rattle.cf_dispute.specs.declared.claim.Claim.{Claim}
use Rattle.cf_dispute.specs.Claims.{no_claims}
use Rattle.cf_dispute.proofs.PutIn.{in_or_out, same_true}
use Rattle.cf_filter.specs.Filter.{filter_hash_of}
use Rattle.cf_headers.specs.Chain.{Chain, Hash, IsIn}
use Rattle.cf_headers.specs.Rules.{same}
use Rattle.cf_match.specs.declared.job.Job.{Job}
use Rattle.cf_msg.specs.declared.msg.Msg.{Msg}
use Rattle.cf_msg.specs.declared.msg.Msg.TheVariants.{Cfilter}
use Rattle.cf_peer.specs.declared.peer.Peer.{Peer}
use Rattle.cf_peer.specs.declared.peer.Reaction.{Reaction}
use Rattle.cf_peer.specs.declared.peer.Reaction.TheVariants.{Nothing as NoReply, Send, Close, Expose}
use Rattle.cf_peer.specs.Asking.{claims, given_by, request, verdict}
use Rattle.cf_peer.specs.Peer.{Hears}
use Rattle.cf_peer.specs.Trail.{Trail, Said}
use Rattle.cf_tables.specs.Outputs.{Paid, lacks_kept}
use Rattle.cf_tables.specs.Tests.{IsSameTold, found_too}
use Rattle.cf_tables.specs.Known.{TestResults}
use Rattle.cf_tables.specs.Trials.{tested_if}
use Rattle.cf_tables.specs.Claiming.{IsSameTables}
use Rattle.cf_sync.proofs.FreshFilters.{one_given}
use Rattle.cf_hear.specs.Seen.{Follows}
use Rattle.cf_tracker.specs.Seen.{Seen}
use Rattle.cf_hear.specs.Tracks.{IsPut}
use Rattle.cf_hear.specs.Exposing.{Exposes, ExposesAmong, IsExposedIn, IsUnexposed}

-- the same is claimed by q, and the same was found
same_exposed : (before after : Seen) (q : ℕ) (at of : Hash) → after.claims q at ≡ before.claims q at
    → after.trials.told at of ≡ before.trials.told at of → IsExposedIn after q at of → IsExposedIn before q at of
same_exposed before after q at of claims told e = record {
  claimed = record { claim = e.claimed.claim; mine = sym claims ∙ e.claimed.mine; this = e.claimed.this };
  found = sym told ∙ e.found;
}

-- nothing was claimed, and nothing found
pub unexposed_on : (before after : Seen) → IsSameTables before.claims after.claims
    → IsSameTold after.trials.told before.trials.told → IsUnexposed before → IsUnexposed after
unexposed_on before after claims told none q at of e = none q at of
    (same_exposed before after q at of (claims q at) (told at of) e)

-- p was given up, or entered
pub unexposed_put : (before after : Seen) (p : ℕ) {own : Option Chain} → IsPut before after p own no_claims
    → IsUnexposed before → IsUnexposed after
unexposed_put before after p put none q at of e = elim (cases_eq q p) [
  | inl same1 ↦ (let no : None ≡ Some e.claimed.claim = sym (put.claims at)
      ∙ ap (λ (k : ℕ). after.claims k at) (sym same1) ∙ e.claimed.mine in cc no)
  | inr other ↦ none q at of (same_exposed before after q at of (put.claims_others q other at)
      (put.stays.trials.told at of) e)
]

-- a message that has to do with nothing that is kept beside the peer
pub plain_exposes : (seen : Seen) (p : ℕ) (peer : Peer) (m : Msg) (t : Trail) (r : Reaction) → Hears peer m t r
    → IsUnexposed seen → Exposes seen p r
plain_exposes seen p peer m t NoReply hears none = none
plain_exposes seen p peer m t (Send reply) hears none = none
plain_exposes seen p peer m t (Close cause) hears none = none
plain_exposes seen p peer m t (Expose block filter) hears none = absurd hears

-- by what p said of some blocks: it claims more of these
pub exposes_claims : (before after : Seen) (p : ℕ) (blocks : List Hash) (r : Reaction)
    → ((q : ℕ) → q ≢ p → (block : Hash) → after.claims q block ≡ before.claims q block)
    → ((block : Hash) → (IsIn block blocks → ⊥) → after.claims p block ≡ before.claims p block)
    → IsSameTold after.trials.told before.trials.told → ExposesAmong after p blocks r → IsUnexposed before
    → Exposes after p r
exposes_claims before after p blocks r others mine told among none = by r among where
  -- of who isn't p nobody is exposed
  apart : (q : ℕ) (at of : Hash) → IsExposedIn after q at of → q ≡ p
  apart q at of e = elim (cases_eq q p) [
    | inl same1 ↦ same1
    | inr other ↦ absurd (none q at of (same_exposed before after q at of (others q other at) (told at of) e))
  ]

  by : (x : Reaction) → ExposesAmong after p blocks x → Exposes after p x
  by NoReply at_none = λ q at of e. (let here : IsExposedIn after p at of = subst
      (λ (k : ℕ). IsExposedIn after k at of) (apart q at of e) e in
      elim (in_or_out at blocks) [
        | inl i ↦ at_none at i of here
        | inr out ↦ none p at of (same_exposed before after p at of (mine at out) (told at of) here)
      ])
  by (Send m) never = absurd never
  by (Close cause) never = absurd never
  by (Expose block filter) here = record { here = here; others = λ q at of e. inl (apart q at of e) }

-- ---- a filter

-- what is told of other filters than one stays
told_else : (aim : Bool) (paid : Paid) (job : Job) (told : TestResults) (at of : Hash)
    → tested_if aim paid (job ∷ []) told at of ≡ Some true
    → (told at of ≡ Some true) ⊎ ((job.block.0 ≡ at) × (filter_hash_of job.filter ≡ of))
told_else false paid job told at of e = inl e
told_else true paid job told at of e = elim (cases_Bool (same job.block.0 at && same (filter_hash_of job.filter) of)) [
  | inl is ↦ (let parts = and_parts (same job.block.0 at) (same (filter_hash_of job.filter) of) is in
      inr (same_true job.block.0 at parts.0, same_true (filter_hash_of job.filter) of parts.1))
  | inr off ↦ inl (sym (ap (λ (b : Bool). if b then Some (found_too (told at of) (lacks_kept job.block.0 job.filter
      (paid job.block.0))) else told at of) off) ∙ e)
]

told_many : (aim : Bool) (paid : Paid) (jobs : List Job) (told : TestResults) (at of : Hash)
    → tested_if aim paid jobs told at of ≡ Some true
    → (told at of ≡ Some true) ⊎ ((job : Job) × (jobs ≡ job ∷ []) × (job.block.0 ≡ at)
    × (filter_hash_of job.filter ≡ of))
told_many aim paid [] told at of e = inl (by aim e) where
  by : (x : Bool) → tested_if x paid [] told at of ≡ Some true → told at of ≡ Some true
  by true e = e
  by false e = e
told_many aim paid (job ∷ []) told at of e = elim (told_else aim paid job told at of e)
    [ inl was ↦ inl was | inr is ↦ inr (job, refl, is.0, is.1) ]
told_many aim paid (job ∷ next ∷ jobs) told at of e = inl (by aim e) where
  by : (x : Bool) → tested_if x paid (job ∷ next ∷ jobs) told at of ≡ Some true → told at of ≡ Some true
  by true e = e
  by false e = e

one_claim : {A : Type 0} (o : Option A) (a b : A) → o ≡ Some a → o ≡ Some b → a ≡ b
one_claim o a b x y = (let both : Some a ≡ Some b = sym x ∙ y in cc)

-- by a filter that p gave: what is claimed stays, and what is found anew is of the filter that p claims of its block
pub exposes_filter : (before after : Seen) (p : ℕ) (filter : ℕ) (block : Hash32) (bytes : List ℕ) (jobs : List Job)
    (t : Trail) (r : Reaction)
    → verdict (Said (Cfilter filter block bytes) ∷ t) ≡ None → given_by (Cfilter filter block bytes)
    (request t) ≡ jobs → Follows before p t
    → IsSameTables before.claims after.claims → IsSameTold after.trials.told
    (tested_if (before.trials.aims p) before.trials.paid jobs before.trials.told)
    → ExposesAmong after p (block.0 ∷ []) r → IsUnexposed before → Exposes after p r
exposes_filter before after p filter block bytes jobs t r clean gives f claimed told among none = by r among where
  -- whoever is exposed claims of the block the filter that p claims
  same_claim : (q : ℕ) (at of : Hash) → IsExposedIn after q at of → (block.0 ≡ at) × IsExposedIn after p block.0 of
  same_claim q at of e = elim (told_many (before.trials.aims p) before.trials.paid jobs before.trials.told at of
      (sym (told at of) ∙ e.found)) [
        | inl was ↦ absurd (none q at of (record {
          claimed = record { claim = e.claimed.claim; mine = sym (claimed q at) ∙ e.claimed.mine; this = e.claimed.this };
          found = was;
        }))
        | inr w ↦ (
            let one = one_given filter block bytes t w.0 clean (gives ∙ w.1) in
            let this : w.0.block.0 ≡ block.0 = ap (λ (j : Job). j.block.0) one.0 in
            let here : block.0 ≡ at = sym this ∙ w.2 in (
              here,
              record {
                claimed = record {
                  claim = one.1.0;
                  mine = claimed p block.0 ∙ f.claims block.0 ∙ subst
                      (λ (h : Hash). claims t h ≡ Some one.1.0) this one.1.1;
                  this = one.1.2 ∙ w.3;
                };
                found = ap (λ (h : Hash). after.trials.told h of) here ∙ e.found;
              },
            )
            )
      ]

  by : (x : Reaction) → ExposesAmong after p (block.0 ∷ []) x → Exposes after p x
  by NoReply at_none = λ q at of e. at_none block.0 (inl refl) of (same_claim q at of e).1
  by (Send m) never = absurd never
  by (Close cause) never = absurd never
  by (Expose b h) here = record {
    here = here;
    others = λ q at of e. (let s = same_claim q at of e in let first = same_claim p b.0 h.0 here in
        let mine : s.1.claimed.claim ≡ first.1.claimed.claim = one_claim
        (after.claims p block.0) s.1.claimed.claim first.1.claimed.claim s.1.claimed.mine first.1.claimed.mine in
        inr (sym s.0 ∙ first.0, sym s.1.claimed.this ∙ ap (λ (c : Claim). c.hash.0) mine ∙ first.1.claimed.this));
  }
