-- What is marked stays so as what is kept changes.
use Rattle.std.proofs.Common.{◌≡◌, ◌≢◌, ◌⊎◌, inl, inr, ℕ, suc, ◌<◌, ◌≤◌, min, Bool, true, false, if◌then◌else◌, List, [], ◌∷◌, map, length, get_or, Option, Some, None, refl, sym, ◌∙◌, ap, subst, arith}
use Rattle.std.proofs.lemmas.List.{length-map}
use Rattle.std.proofs.lemmas.Slice.Eq.{bytes_eq-Decides}
use Rattle.cf_filter.specs.Filter.{filter_hash_of}
use Rattle.cf_headers.specs.Rules.{same}
use Rattle.cf_match.specs.declared.job.Job.{Job}
use Rattle.std.specs.Prelude.{IsSome}
use Rattle.std.proofs.lemmas.Bool.{cases_eq, cases_Bool, and_parts}
use Rattle.cf_bytes.specs.declared.hash.Hash32.{Hash32}
use Rattle.cf_dispute.specs.declared.claim.At.TheVariants.{One, Differ}
use Rattle.cf_dispute.specs.declared.claim.Claim.{Claim}
use Rattle.cf_dispute.specs.Claims.{Tables, IsAt}
use Rattle.cf_block.specs.declared.header.Header.{Header}
use Rattle.cf_headers.specs.Chain.{Hash, Chain, Longer, accept, tip_hash}
use Rattle.cf_headers.specs.Changes.{link_height}
use Rattle.cf_headers.proofs.Accepting.{stands_below}
use Rattle.cf_headers.specs.Heights.{hash_at}
use Rattle.cf_match.specs.declared.job.Verdict.{Verdict}
use Rattle.cf_match.specs.declared.job.Verdict.TheVariants.{Hit}
use Rattle.cf_match.specs.Verdicts.{Verdicts, is_of, kept_or, verdict_of, with_verdict, with_verdicts}
use Rattle.cf_tables.specs.Judged.{MoreVerdicts}
use Rattle.cf_tables.specs.Known.{ExtractTable}
use Rattle.cf_tables.specs.Wanting.{IsUnjudged, IsToFetch, AreClaimed}
use Rattle.cf_tables.specs.Claiming.{AddsClaims}
use Rattle.cf_seek.specs.Opens.{Opens}
use Rattle.cf_seek.specs.Opening.{Closes, OpensBlock}
use Rattle.cf_seek.specs.Seeking.{IsToAsk, IsToGet, AreSought, ArePassed, ArePassedHits, MoreOpens}
use Rattle.cf_seek.proofs.Stays.{claims_more}

back_none : {A B : Type 0} (a : Option A) (b : Option B) → (IsSome a → IsSome b) → b ≡ None → a ≡ None
back_none None b grows e = refl
back_none (Some x) b grows e = absurd (let there = subst IsSome e (grows refl) in cc there)

-- ---- one block

pub un_extracts : (extracts more : ExtractTable) (tables : Tables) (verdicts : Verdicts) (block : Hash) → (IsSome (extracts block) → IsSome (more block)) → IsUnjudged more tables verdicts block → IsUnjudged extracts tables verdicts block
un_extracts extracts more tables verdicts block grows un = (back_none (extracts block) (more block) grows un.0, un.1)

pub due_extracts : (extracts more : ExtractTable) (tables : Tables) (verdicts : Verdicts) (block : Hash) → (IsSome (extracts block) → IsSome (more block)) → IsToFetch more tables verdicts block → IsToFetch extracts tables verdicts block
due_extracts extracts more tables verdicts block grows due = (back_none (extracts block) (more block) grows due.0, due.1)

less : (old new : Option Verdict) → ((v : Verdict) → old ≡ Some v → new ≡ Some v) → new ≡ None → old ≡ None
less None new stays e = refl
less (Some v) new stays e = absurd (let no = sym (stays v refl) ∙ e in cc no)

pub un_verdicts : (extracts : ExtractTable) (tables : Tables) (verdicts new : Verdicts) (block : Hash) → MoreVerdicts verdicts new → IsUnjudged extracts tables new block → IsUnjudged extracts tables verdicts block
un_verdicts extracts tables verdicts new block stays un = (un.0, (un.1.0, un.1.1, less (verdicts block un.1.0.0) (new block un.1.0.0) (λ v e. stays block un.1.0.0 v e) un.1.2))

-- one hash was the one before, where the peer q already claimed one
one_before : (before after : Tables) (p q : ℕ) (block : Hash) (hash : Hash32) → AddsClaims before after p → IsSome (before q block) → IsAt after block (One hash) → IsAt before block (One hash)
one_before before after p q block hash adds some at = by (before q block) refl some where
  by : (o : Option Claim) → before q block ≡ o → IsSome o → IsAt before block (One hash)
  by None e some = cc some
  by (Some c) e some = (
    (q, (c, e, (let m = claims_more before after p q block c.hash adds (c, e, refl) in at.1 q c.hash m))),
    λ k other claim. at.1 k other (claims_more before after p k block other adds claim),
  )

pub un_claims : (extracts : ExtractTable) (before after : Tables) (verdicts : Verdicts) (p q : ℕ) (block : Hash) → AddsClaims before after p → IsSome (before q block) → IsUnjudged extracts after verdicts block → IsUnjudged extracts before verdicts block
un_claims extracts before after verdicts p q block adds some un = (un.0, (un.1.0, one_before before after p q block un.1.0 adds some un.1.1, un.1.2))

pub due_claims : (extracts : ExtractTable) (before after : Tables) (verdicts : Verdicts) (p q : ℕ) (block : Hash) → AddsClaims before after p → IsSome (before q block) → (extracts block ≡ None → IsAt after block Differ → IsAt before block Differ)
    → IsToFetch extracts after verdicts block → IsToFetch extracts before verdicts block
due_claims extracts before after verdicts p q block adds some quiet (none, inl differ) = (none, inl (quiet none differ))
due_claims extracts before after verdicts p q block adds some quiet (none, inr hit) = (none, inr (hit.0, one_before before after p q block hit.0 adds some hit.1, hit.2))

-- ---- along a chain

pub sought_by : (extracts more : ExtractTable) (before after : Tables) (verdicts new : Verdicts) (opens now : Opens) (own : Chain) (most : ℕ)
    → ((h : ℕ) → 1 ≤ h → h ≤ most → IsToAsk more after new now (hash_at own h) → IsToAsk extracts before verdicts opens (hash_at own h))
    → AreSought extracts before verdicts opens own most → AreSought more after new now own most
sought_by extracts more before after verdicts new opens now own most back are h up low is = are h up low (back h up low is)

pub passed_by : (extracts more : ExtractTable) (before after : Tables) (verdicts new : Verdicts) (opens now : Opens) (own : Chain) (most : ℕ)
    → ((h : ℕ) → 1 ≤ h → h ≤ most → IsToGet more after new now (hash_at own h) → IsToGet extracts before verdicts opens (hash_at own h))
    → ArePassed extracts before verdicts opens own most → ArePassed more after new now own most
passed_by extracts more before after verdicts new opens now own most back are h up low is = are h up low (back h up low is)

pub sought_extracts : (extracts more : ExtractTable) (tables : Tables) (verdicts : Verdicts) (opens : Opens) (own : Chain) (most : ℕ) → ((block : Hash) → IsSome (extracts block) → IsSome (more block))
    → AreSought extracts tables verdicts opens own most → AreSought more tables verdicts opens own most
sought_extracts extracts more tables verdicts opens own most grows =
    sought_by extracts more tables tables verdicts verdicts opens opens own most
    (λ h up low is. record { above = is.above; un = un_extracts extracts more tables verdicts (hash_at own h) (grows (hash_at own h)) is.un; free = is.free })

pub passed_extracts : (extracts more : ExtractTable) (tables : Tables) (verdicts : Verdicts) (opens : Opens) (own : Chain) (most : ℕ) → ((block : Hash) → IsSome (extracts block) → IsSome (more block))
    → ArePassed extracts tables verdicts opens own most → ArePassed more tables verdicts opens own most
passed_extracts extracts more tables verdicts opens own most grows =
    passed_by extracts more tables tables verdicts verdicts opens opens own most
    (λ h up low is. record { above = is.above; due = due_extracts extracts more tables verdicts (hash_at own h) (grows (hash_at own h)) is.due; free = is.free })

pub sought_verdicts : (extracts : ExtractTable) (tables : Tables) (verdicts new : Verdicts) (opens : Opens) (own : Chain) (most : ℕ) → MoreVerdicts verdicts new
    → AreSought extracts tables verdicts opens own most → AreSought extracts tables new opens own most
sought_verdicts extracts tables verdicts new opens own most stays =
    sought_by extracts extracts tables tables verdicts new opens opens own most
    (λ h up low is. record { above = is.above; un = un_verdicts extracts tables verdicts new (hash_at own h) stays is.un; free = is.free })

-- verdicts came: it stays so up to below the lowest block that hits now and didn't
pub passed_verdicts : (extracts : ExtractTable) (tables : Tables) (verdicts new : Verdicts) (opens : Opens) (own : Chain) (most : ℕ)
    → ((h : ℕ) → 1 ≤ h → h ≤ most → (hash : Hash32) → new (hash_at own h) hash.0 ≡ Some Hit → verdicts (hash_at own h) hash.0 ≡ Some Hit)
    → ArePassed extracts tables verdicts opens own most → ArePassed extracts tables new opens own most
passed_verdicts extracts tables verdicts new opens own most same_hits =
    passed_by extracts extracts tables tables verdicts new opens opens own most (λ h up low is. record { above = is.above; due = by h up low is.due; free = is.free }) where
      by : (h : ℕ) → 1 ≤ h → h ≤ most → IsToFetch extracts tables new (hash_at own h) → IsToFetch extracts tables verdicts (hash_at own h)
      by h up low (none, inl differ) = (none, inl differ)
      by h up low (none, inr hit) = (none, inr (hit.0, hit.1, same_hits h up low hit.0 hit.2))

pub sought_claims : (extracts : ExtractTable) (before after : Tables) (verdicts : Verdicts) (opens : Opens) (p q : ℕ) (own : Chain) (most : ℕ) → AddsClaims before after p → AreClaimed before q own most
    → AreSought extracts before verdicts opens own most → AreSought extracts after verdicts opens own most
sought_claims extracts before after verdicts opens p q own most adds claimed =
    sought_by extracts extracts before after verdicts verdicts opens opens own most
    (λ h up low is. record { above = is.above; un = un_claims extracts before after verdicts p q (hash_at own h) adds (claimed h up low is.above) is.un; free = is.free })

pub passed_claims : (extracts : ExtractTable) (before after : Tables) (verdicts : Verdicts) (opens : Opens) (p q : ℕ) (own : Chain) (most : ℕ) → AddsClaims before after p → AreClaimed before q own most
    → ((block : Hash) → extracts block ≡ None → IsAt after block Differ → IsAt before block Differ)
    → ArePassed extracts before verdicts opens own most → ArePassed extracts after verdicts opens own most
passed_claims extracts before after verdicts opens p q own most adds claimed quiet =
    passed_by extracts extracts before after verdicts verdicts opens opens own most
    (λ h up low is. record { above = is.above; due = due_claims extracts before after verdicts p q (hash_at own h) adds (claimed h up low is.above) (quiet (hash_at own h)) is.due; free = is.free })

-- more is open
pub sought_opens : (extracts : ExtractTable) (tables : Tables) (verdicts : Verdicts) (opens now : Opens) (own : Chain) (most : ℕ) → MoreOpens opens now
    → AreSought extracts tables verdicts opens own most → AreSought extracts tables verdicts now own most
sought_opens extracts tables verdicts opens now own most more =
    sought_by extracts extracts tables tables verdicts verdicts opens now own most (λ h up low is. record { above = is.above; un = is.un; free = λ q. more.filters q (hash_at own h) (is.free q) })

pub passed_opens : (extracts : ExtractTable) (tables : Tables) (verdicts : Verdicts) (opens now : Opens) (own : Chain) (most : ℕ) → MoreOpens opens now
    → ArePassed extracts tables verdicts opens own most → ArePassed extracts tables verdicts now own most
passed_opens extracts tables verdicts opens now own most more =
    passed_by extracts extracts tables tables verdicts verdicts opens now own most (λ h up low is. record { above = is.above; due = is.due; free = λ q. more.blocks q (hash_at own h) (is.free q) })

-- a block is open to a peer to which none was
pub block_more : (opens now : Opens) (p : ℕ) (asked : Hash) → ((block : Hash) → opens.blocks p block ≡ false) → OpensBlock opens now p asked → MoreOpens opens now
block_more opens now p asked idle o = record {
  filters = λ q b off. elim (cases_eq q p) [
    | inl e ↦ subst (λ (k : ℕ). opens.filters k b ≡ false) (sym e) (sym (o.filters b) ∙ subst (λ (k : ℕ). now.filters k b ≡ false) e off)
    | inr ne ↦ sym (o.others.filters q ne b) ∙ off
  ];
  blocks = λ q b off. elim (cases_eq q p) [
    | inl e ↦ subst (λ (k : ℕ). opens.blocks k b ≡ false) (sym e) (idle b)
    | inr ne ↦ sym (o.others.blocks q ne b) ∙ off
  ];
}

-- a peer has answered, and nothing of what was open to it is still to be asked for
closed_free : (before after : ℕ → Bool) (p : ℕ) → (before p ≡ true → ⊥) → ((q : ℕ) → q ≢ p → after q ≡ before q)
    → ((q : ℕ) → after q ≡ false) → (q : ℕ) → before q ≡ false
closed_free before after p never others free q = elim (cases_eq q p) [
  | inl e ↦ subst (λ (k : ℕ). before k ≡ false) (sym e) (elim (cases_Bool (before p)) [ inl on ↦ absurd (never on) | inr off ↦ off ])
  | inr ne ↦ sym (others q ne) ∙ free q
]

closed_filters : (opens now : Opens) (p : ℕ) (block : Hash) → Closes opens now p → (opens.filters p block ≡ true → ⊥) → ((q : ℕ) → now.filters q block ≡ false) → (q : ℕ) → opens.filters q block ≡ false
closed_filters opens now p block closes never = closed_free (λ q. opens.filters q block) (λ q. now.filters q block) p never (λ q ne. closes.others.filters q ne block)

closed_blocks : (opens now : Opens) (p : ℕ) (block : Hash) → Closes opens now p → (opens.blocks p block ≡ true → ⊥) → ((q : ℕ) → now.blocks q block ≡ false) → (q : ℕ) → opens.blocks q block ≡ false
closed_blocks opens now p block closes never = closed_free (λ q. opens.blocks q block) (λ q. now.blocks q block) p never (λ q ne. closes.others.blocks q ne block)

pub sought_closes : (extracts : ExtractTable) (tables : Tables) (verdicts : Verdicts) (opens now : Opens) (p : ℕ) (own : Chain) (most : ℕ) → Closes opens now p
    → ((block : Hash) → opens.filters p block ≡ true → IsUnjudged extracts tables verdicts block → ⊥)
    → AreSought extracts tables verdicts opens own most → AreSought extracts tables verdicts now own most
sought_closes extracts tables verdicts opens now p own most closes answered are h up low is =
    are h up low (record { above = is.above; un = is.un; free = closed_filters opens now p (hash_at own h) closes (λ on. answered (hash_at own h) on is.un) is.free })

pub passed_closes : (extracts : ExtractTable) (tables : Tables) (verdicts : Verdicts) (opens now : Opens) (p : ℕ) (own : Chain) (most : ℕ) → Closes opens now p
    → ((block : Hash) → opens.blocks p block ≡ true → IsToFetch extracts tables verdicts block → ⊥)
    → ArePassed extracts tables verdicts opens own most → ArePassed extracts tables verdicts now own most
passed_closes extracts tables verdicts opens now p own most closes answered are h up low is =
    are h up low (record { above = is.above; due = is.due; free = closed_blocks opens now p (hash_at own h) closes (λ on. answered (hash_at own h) on is.due) is.free })

-- a chain became a longer one: it stays so up to the height at which that links
pub same_below : (hs : List Header) (own next : Chain) (h : ℕ) → accept hs own ≡ Longer next → h ≤ link_height hs own → hash_at own h ≡ hash_at next h
same_below hs own next h e low = sym (ap tip_hash (stands_below hs own next h e low))

pub sought_grown : (extracts : ExtractTable) (tables : Tables) (verdicts : Verdicts) (opens : Opens) (hs : List Header) (own next : Chain) (most : ℕ) → accept hs own ≡ Longer next
    → AreSought extracts tables verdicts opens own most → AreSought extracts tables verdicts opens next (min most (link_height hs own))
sought_grown extracts tables verdicts opens hs own next most e are h up low is =
    are h up (omega (arith, low)) (subst (IsToAsk extracts tables verdicts opens) (sym (same_below hs own next h e (omega (arith, low)))) is)

pub passed_grown : (extracts : ExtractTable) (tables : Tables) (verdicts : Verdicts) (opens : Opens) (hs : List Header) (own next : Chain) (most : ℕ) → accept hs own ≡ Longer next
    → ArePassed extracts tables verdicts opens own most → ArePassed extracts tables verdicts opens next (min most (link_height hs own))
passed_grown extracts tables verdicts opens hs own next most e are h up low is =
    are h up (omega (arith, low)) (subst (IsToGet extracts tables verdicts opens) (sym (same_below hs own next h e (omega (arith, low)))) is)

-- ---- verdicts on a batch

pub same_true : (a b : List ℕ) → same a b ≡ true → a ≡ b
unfolding same
same_true a b e = (bytes_eq-Decides a b).0 e

-- the filter of one of these blocks hits
abbrev HitsAmong : List (List ℕ) → List Job → Hash → Type 0
HitsAmong watch jobs block = (k : ℕ) × ((k < length jobs) × ((d : Job) (v : Verdict) → (get_or (map (verdict_of watch) jobs) k v ≡ Hit) × (block ≡ (get_or jobs k d).block.0)))

new_hit : (watch : List (List ℕ)) (jobs : List Job) (old : Verdicts) (block filter : Hash) → with_verdicts watch jobs old block filter ≡ Some Hit → (old block filter ≡ Some Hit) ⊎ HitsAmong watch jobs block
new_hit watch [] old block filter e = inl e
new_hit watch (j ∷ js) old block filter e = elim (new_hit watch js (with_verdict watch j old) block filter e) [
  | inl was ↦ by (is_of j block filter) refl (old block filter) refl was
  | inr w ↦ inr (suc w.0, (omega (arith, w.1.0), λ d v. w.1.1 d v))
] where
  by : (b : Bool) → is_of j block filter ≡ b → (o : Option Verdict) → old block filter ≡ o → (if b then Some (kept_or o (verdict_of watch j)) else o) ≡ Some Hit → (old block filter ≡ Some Hit) ⊎ HitsAmong watch (j ∷ js) block
  by false e1 o eo h = inl (eo ∙ h)
  by true e1 None eo h = inr (0, (omega arith, λ d v. ((let one : verdict_of watch j ≡ Hit = cc in one), sym (same_true j.block.0 block (and_parts (same j.block.0 block) (same (filter_hash_of j.filter) filter) e1).0))))
  by true e1 (Some x) eo h = inl (eo ∙ h)

-- some of the verdicts on a batch came: it stays so below the lowest block of the batch that hits
pub passed_part : (extracts : ExtractTable) (tables : Tables) (verdicts new : Verdicts) (opens : Opens) (own : Chain) (most : ℕ) (watch : List (List ℕ)) (jobs : List Job)
    → ((block filter : Hash) → new block filter ≡ Some Hit → with_verdicts watch jobs verdicts block filter ≡ Some Hit)
    → ArePassedHits own most jobs (map (verdict_of watch) jobs) (length jobs)
    → ArePassed extracts tables verdicts opens own most → ArePassed extracts tables new opens own most
passed_part extracts tables verdicts new opens own most watch jobs hits apart =
    passed_verdicts extracts tables verdicts new opens own most
    (λ h up low hash e. elim (new_hit watch jobs verdicts (hash_at own h) hash.0 (hits (hash_at own h) hash.0 e)) [
      | inl was ↦ was
      | inr w ↦ (
          let d : Job = record { block = hash; filter = [] } in
          let v : Verdict = Hit in
          absurd (apart h up low w.0 d v w.1.0 (omega (arith, w.1.0, length-map jobs (verdict_of watch))) (w.1.1 d v).0 (w.1.1 d v).1)
          )
    ])

pub passed_hits : (extracts : ExtractTable) (tables : Tables) (verdicts : Verdicts) (opens : Opens) (own : Chain) (most : ℕ) (watch : List (List ℕ)) (jobs : List Job) → ArePassedHits own most jobs (map (verdict_of watch) jobs) (length jobs)
    → ArePassed extracts tables verdicts opens own most → ArePassed extracts tables (with_verdicts watch jobs verdicts) opens own most
passed_hits extracts tables verdicts opens own most watch jobs =
    passed_part extracts tables verdicts (with_verdicts watch jobs verdicts) opens own most watch jobs (λ block filter e. e)
