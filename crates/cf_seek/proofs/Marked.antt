-- The marks stay right.
use Rattle.std.proofs.Common.{◌≡◌, ◌≢◌, ◌⊎◌, inl, inr, ℕ, ◌+◌, ◌-◌, ◌<◌, ◌≤◌, Bool, true, false, List, [], ◌∷◌, length, map, replicate, reverse, Option, Some, None, refl, sym, ◌∙◌, ap, subst, arith}
use Rattle.std.proofs.Math.Logic.{∥∥₁_map}
use Rattle.cf_bytes.specs.declared.memory.NoMemory.{NoMemory}
use Rattle.std.specs.Prelude.{◌==◌, IsSome, Result, Ok, Err, OnOk, OnErr, unwrap_or, if◌then◌else◌, slice_set}
use Rattle.std.proofs.lemmas.Grind.{common_steps}
use Rattle.std.proofs.lemmas.Bool.{cases_eq, cases_lt, false_from_ne_true}
use Rattle.std.proofs.lemmas.Bool.Decides.{Decides-eqb}
use Rattle.std.proofs.lemmas.List.{get_or-replicate, get_or_past, length-append, length-drop, length-map, length-replicate, length-reverse}
use Rattle.cf_bytes.specs.declared.hash.Hash32.{Hash32}
use Rattle.cf_bytes.specs.declared.peer.PeerNo.{PeerNo}
use Rattle.cf_block.specs.declared.header.Header.{Header}
use Rattle.cf_dispute.specs.declared.claim.At.TheVariants.{Differ}
use Rattle.cf_dispute.specs.Claims.{Tables, IsAt, claim_of, with_claim, with_claims}
use Rattle.cf_dispute.specs.declared.claim.ClaimFault.TheVariants.{Count}
use Rattle.cf_dispute.specs.Tables.{blocks_of, claim_fault, previous_fault}
use Rattle.cf_dispute.proofs.PutIn.{same_from, same_off, in_or_out}
use Rattle.cf_dispute.specs.Claims as dispute
use Rattle.cf_headers.specs.declared.change.Change.{Change}
use Rattle.cf_headers.specs.Rules.{same}
use Rattle.cf_headers.specs.Chain.{Hash, Chain, Accepted, Longer, NoLonger, Unlinked, Invalid, TooHigh, accept, lower, IsIn, chain_after}
use Rattle.cf_headers.specs.Heights.{hash_at}
use Rattle.cf_headers.specs.Changes.{link_height, change_of}
use Rattle.cf_headers.specs.Store.{Chains, own_of, Puts, Stays}
use Rattle.cf_headers.proofs.Accepting.{grown_is}
use Rattle.cf_match.specs.declared.job.Job.{Job}
use Rattle.cf_match.specs.declared.job.Verdict.{Verdict}
use Rattle.cf_match.specs.declared.job.Verdict.TheVariants.{Hit}
use Rattle.cf_match.specs.Verdicts.{AreSameVerdicts, Verdicts, is_of, kept_or, verdict_of, with_verdict, with_verdicts}
use Rattle.cf_scan.specs.declared.extracts.TxExtract.{TxExtract}
use Rattle.cf_seek.specs.declared.cursors.Marks.{Marks}
use Rattle.cf_seek.specs.Cursors.{no_marks, marks_at, lowered, fallen, further, unpassed, unsought}
use Rattle.cf_tables.specs.Extracts.{with_extract}
use Rattle.cf_tables.specs.Judged.{AreKeptInPart, MoreVerdicts}
use Rattle.cf_seek.specs.Opens.{Opens}
use Rattle.cf_seek.specs.Opening.{Closes}
use Rattle.cf_seek.specs.Seeking.{AreSought, ArePassed, MoreOpens}
use Rattle.cf_tables.specs.Tables.{IsSameTable}
use Rattle.cf_tables.specs.Known.{ExtractTable}
use Rattle.cf_seek.specs.Tracking.{AreAmong, IsFallen, IsMarked, MarkedAt, AreMarked}
use Rattle.cf_tables.specs.Wanting.{IsToFetch, IsUnjudged, AreClaimed}
use Rattle.cf_tables.specs.Claiming.{AddsClaims, ForgetsClaims}
use Rattle.cf_seek.proofs.Stays.{claims_more}
use Rattle.cf_seek.proofs.SoughtStays.{passed_part, sought_extracts, passed_extracts, sought_verdicts, sought_claims, passed_claims, sought_opens, passed_opens, sought_closes, passed_closes, same_below, sought_grown, passed_grown}

-- ---- one peer

some_is : {A : Type 0} (o : Option A) → IsSome o → (x : A) × (o ≡ Some x)
some_is None s = cc s
some_is (Some x) s = (x, refl)

none_now : {A : Type 0} (o : Option A) → IsSome o → o ≡ None → ⊥
none_now None some e = cc some
none_now (Some x) some e = cc e

-- nothing is marked
pub nothing_marked : (extracts : ExtractTable) (tables : Tables) (verdicts : Verdicts) (opens : Opens) (p : ℕ) (own : Chain) → IsMarked extracts tables verdicts opens p own no_marks
nothing_marked extracts tables verdicts opens p own = record {
  on = omega arith;
  seeks = omega arith;
  passes = omega arith;
  claimed = λ h up low. absurd (omega (arith, up, low));
  sought = λ h up low. absurd (omega (arith, up, low));
  passed = λ h up low. absurd (omega (arith, up, low));
}

-- marks on the same chain, none of which is higher than before
still_marked : (extracts more : ExtractTable) (before after : Tables) (verdicts new : Verdicts) (opens now : Opens) (p : ℕ) (own : Chain) (a b : Marks)
    → IsMarked extracts before verdicts opens p own a → b.claimed ≡ a.claimed → b.sought ≤ a.sought → b.passed ≤ a.passed
    → ((block : Hash) → IsSome (before p block) → IsSome (after p block))
    → (AreClaimed before p own b.sought → AreSought extracts before verdicts opens own b.sought → AreSought more after new now own b.sought)
    → (AreClaimed before p own b.passed → ArePassed extracts before verdicts opens own b.passed → ArePassed more after new now own b.passed)
    → IsMarked more after new now p own b
still_marked extracts more before after verdicts new opens now p own a b m same1 low1 low2 claims seeks passes =
    let on = m.on in
    let s = m.seeks in
    let t = m.passes in
    record {
      on = omega (arith, on, same1);
      seeks = omega (arith, s, low1, same1);
      passes = omega (arith, t, low2, same1);
      claimed = λ h up low above. claims (hash_at own h) (m.claimed h up (omega (arith, low, same1)) above);
      sought = seeks (λ h up low above. m.claimed h up (omega (arith, low, s, low1)) above) (λ h up low is. m.sought h up (omega (arith, low, low1)) is);
      passed = passes (λ h up low above. m.claimed h up (omega (arith, low, t, low2)) above) (λ h up low is. m.passed h up (omega (arith, low, low2)) is);
    }

-- nothing is marked as sought, whatever is kept
unsought_marked : (extracts : ExtractTable) (before after : Tables) (verdicts : Verdicts) (opens now : Opens) (p : ℕ) (own : Chain) (marks : Marks) → IsMarked extracts before verdicts opens p own marks
    → ((block : Hash) → IsSome (before p block) → IsSome (after p block)) → IsMarked extracts after verdicts now p own (unsought marks)
unsought_marked extracts before after verdicts opens now p own marks m claims =
    still_marked extracts extracts before after verdicts verdicts opens now p own marks (unsought marks) m refl (omega arith) (omega arith) claims
    (λ claimed are h up low is. absurd (omega (arith, up, low))) (λ claimed are h up low is. absurd (omega (arith, up, low)))

-- ---- all peers

-- what holds of nobody's marks holds of lower ones
at_each : (extracts more : ExtractTable) (before after : Tables) (verdicts new : Verdicts) (opens now : Opens) (p : ℕ) (o : Option Chain) (a b : Marks) → ((block : Hash) → before p block ≡ None → after p block ≡ None)
    → b.sought ≤ a.sought → b.passed ≤ a.passed
    → ((own : Chain) → IsMarked extracts before verdicts opens p own a → IsMarked more after new now p own b) → MarkedAt extracts before verdicts opens p o a → MarkedAt more after new now p o b
at_each extracts more before after verdicts new opens now p None a b none low1 low2 step m =
    (λ block. none block (m.0 block), (let z = m.1 in omega (arith, z, low1)), (let z = m.2 in omega (arith, z, low2)))
at_each extracts more before after verdicts new opens now p (Some own) a b none low1 low2 step m = step own m

set_other : (xs : List Marks) (p : ℕ) (v : Marks) (q : ℕ) → q ≢ p → marks_at (slice_set xs p v) q ≡ marks_at xs q
set_other xs p v q ne = elim (cases_lt p (length xs)) [ inl lt ↦ grind (arith, common_steps) | inr ge ↦ grind (arith, common_steps) ]

set_here : (xs : List Marks) (p : ℕ) (v : Marks) → (marks_at (slice_set xs p v) p ≡ v) ⊎ (marks_at (slice_set xs p v) p ≡ no_marks)
set_here xs p v = elim (cases_lt p (length xs)) [ inl lt ↦ inl (grind (arith, common_steps)) | inr ge ↦ inr (grind (arith, common_steps)) ]

-- p's marks are put, on a chain that p has now
pub put_marked : (chains next : Chains) (extracts : ExtractTable) (tables : Tables) (verdicts : Verdicts) (opens : Opens) (cursors : List Marks) (p : PeerNo) (own : Chain) (marks : Marks)
    → AreMarked chains extracts tables verdicts opens cursors → Puts chains next p (Some own) → IsMarked extracts tables verdicts opens p.0 own marks
    → AreMarked next extracts tables verdicts opens (slice_set cursors p.0 marks)
put_marked chains next extracts tables verdicts opens cursors p own marks are puts here q = elim (cases_eq q p.0) [
  | inl e ↦ subst (λ (k : ℕ). MarkedAt extracts tables verdicts opens k (next k) (marks_at (slice_set cursors p.0 marks) k)) (sym e)
      (subst (λ (o : Option Chain). MarkedAt extracts tables verdicts opens p.0 o (marks_at (slice_set cursors p.0 marks) p.0)) (sym puts.here)
      (elim (set_here cursors p.0 marks) [
        | inl is1 ↦ subst (λ (m : Marks). IsMarked extracts tables verdicts opens p.0 own m) (sym is1) here
        | inr is1 ↦ subst (λ (m : Marks). IsMarked extracts tables verdicts opens p.0 own m) (sym is1) (nothing_marked extracts tables verdicts opens p.0 own)
      ]))
  | inr ne ↦ subst (λ (m : Marks). MarkedAt extracts tables verdicts opens q (next q) m) (sym (set_other cursors p.0 marks q ne))
      (subst (λ (o : Option Chain). MarkedAt extracts tables verdicts opens q o (marks_at cursors q)) (sym (puts.others q ne)) (are q))
]

-- ---- the calls

no_marks_at : (n q : ℕ) → marks_at (replicate n no_marks) q ≡ no_marks
no_marks_at n q = elim (cases_lt q n) [
  | inl lt ↦ get_or-replicate n q no_marks no_marks lt
  | inr ge ↦ get_or_past (replicate n no_marks) q no_marks (omega (arith, ge, length-replicate n no_marks))
]

pub none_marked : (chains : Chains) (extracts : ExtractTable) (tables : Tables) (verdicts : Verdicts) (opens : Opens) (cursors : List Marks) (n : ℕ) → ((q : ℕ) → chains q ≡ None) → ((p : ℕ) (block : Hash) → tables p block ≡ None)
    → cursors ≡ replicate n no_marks → ∥ AreMarked chains extracts tables verdicts opens cursors ∥₁
none_marked chains extracts tables verdicts opens cursors n none claims fresh =
    ∣ (λ q. subst (λ (o : Option Chain). MarkedAt extracts tables verdicts opens q o (marks_at cursors q)) (sym (none q))
    (let e : marks_at cursors q ≡ no_marks = ap (λ (xs : List Marks). marks_at xs q) fresh ∙ no_marks_at n q in
    (claims q, ap (λ (m : Marks). m.sought) e, ap (λ (m : Marks). m.passed) e))) ∣₁

pub stays_marked : (chains next : Chains) (extracts : ExtractTable) (tables : Tables) (verdicts : Verdicts) (opens : Opens) (cursors : List Marks) → Stays chains next
    → ∥ AreMarked chains extracts tables verdicts opens cursors ∥₁ → ∥ AreMarked next extracts tables verdicts opens cursors ∥₁
stays_marked chains next extracts tables verdicts opens cursors stays t =
    ∥∥₁_map t (λ are q. subst (λ (o : Option Chain). MarkedAt extracts tables verdicts opens q o (marks_at cursors q)) (sym (stays q)) (are q))

pub entered_marked : (chains next : Chains) (extracts : ExtractTable) (tables : Tables) (verdicts : Verdicts) (opens : Opens) (cursors : List Marks) (p : PeerNo) → Puts chains next p (Some [])
    → ∥ AreMarked chains extracts tables verdicts opens cursors ∥₁ → ∥ AreMarked next extracts tables verdicts opens (slice_set cursors p.0 no_marks) ∥₁
entered_marked chains next extracts tables verdicts opens cursors p puts t =
    ∥∥₁_map t (λ are. put_marked chains next extracts tables verdicts opens cursors p [] no_marks are puts (nothing_marked extracts tables verdicts opens p.0 []))

-- a peer's chain and claims are gone, and what was open to it
pub forgotten_marked : (chains next : Chains) (extracts : ExtractTable) (before after : Tables) (verdicts : Verdicts) (opens open_now : Opens) (cursors now : List Marks) (p : PeerNo) → Puts chains next p None
    → ForgetsClaims before after p.0 → ((q : ℕ) → marks_at now q ≡ unsought (marks_at (slice_set cursors p.0 no_marks) q))
    → ∥ AreMarked chains extracts before verdicts opens cursors ∥₁ → ∥ AreMarked next extracts after verdicts open_now now ∥₁
forgotten_marked chains next extracts before after verdicts opens open_now cursors now p puts forgets fell t = ∥∥₁_map t (λ are q. elim (cases_eq q p.0) [
  | inl e ↦ subst (λ (k : ℕ). MarkedAt extracts after verdicts open_now k (next k) (marks_at now k)) (sym e)
      (subst (λ (o : Option Chain). MarkedAt extracts after verdicts open_now p.0 o (marks_at now p.0)) (sym puts.here)
      (forgets.gone, ap (λ (m : Marks). m.sought) (fell p.0), ap (λ (m : Marks). m.passed) (fell p.0)))
  | inr ne ↦ (
      let keep : (block : Hash) → after q block ≡ before q block = forgets.others q ne in
      subst (λ (o : Option Chain). MarkedAt extracts after verdicts open_now q o (marks_at now q)) (sym (puts.others q ne))
      (subst (λ (m : Marks). MarkedAt extracts after verdicts open_now q (chains q) m) (sym (fell q ∙ ap unsought (set_other cursors p.0 no_marks q ne)))
      (at_each extracts extracts before after verdicts verdicts opens open_now q (chains q) (marks_at cursors q) (unsought (marks_at cursors q)) (λ block none. keep block ∙ none)
      (omega arith) (omega arith)
      (λ own m. unsought_marked extracts before after verdicts opens open_now q own (marks_at cursors q) m (λ block some. subst IsSome (sym (keep block)) some))
      (are q)))
      )
])

-- all is sought anew
pub unsought_all : (chains : Chains) (extracts : ExtractTable) (tables : Tables) (verdicts : Verdicts) (opens open_now : Opens) (cursors now : List Marks)
    → ((q : ℕ) → marks_at now q ≡ unsought (marks_at cursors q))
    → ∥ AreMarked chains extracts tables verdicts opens cursors ∥₁ → ∥ AreMarked chains extracts tables verdicts open_now now ∥₁
unsought_all chains extracts tables verdicts opens open_now cursors now fell t = ∥∥₁_map t (λ are q.
    subst (λ (m : Marks). MarkedAt extracts tables verdicts open_now q (chains q) m) (sym (fell q))
    (at_each extracts extracts tables tables verdicts verdicts opens open_now q (chains q) (marks_at cursors q) (unsought (marks_at cursors q)) (λ block none. none) (omega arith) (omega arith)
    (λ own m. unsought_marked extracts tables tables verdicts opens open_now q own (marks_at cursors q) m (λ block some. some))
    (are q)))

-- the same marks, where nothing of them falls
kept_each : (chains : Chains) (extracts more : ExtractTable) (tables : Tables) (verdicts new : Verdicts) (opens now : Opens) (cursors : List Marks)
    → ((q : ℕ) (own : Chain) (most : ℕ) → AreSought extracts tables verdicts opens own most → AreSought more tables new now own most)
    → ((q : ℕ) (own : Chain) (most : ℕ) → ArePassed extracts tables verdicts opens own most → ArePassed more tables new now own most)
    → AreMarked chains extracts tables verdicts opens cursors → AreMarked chains more tables new now cursors
kept_each chains extracts more tables verdicts new opens now cursors seeks passes are q =
    at_each extracts more tables tables verdicts new opens now q (chains q) (marks_at cursors q) (marks_at cursors q) (λ block none. none) (omega arith) (omega arith)
    (λ own m. still_marked extracts more tables tables verdicts new opens now q own (marks_at cursors q) (marks_at cursors q) m refl (omega arith) (omega arith) (λ block some. some)
    (λ claimed. seeks q own (marks_at cursors q).sought) (λ claimed. passes q own (marks_at cursors q).passed))
    (are q)

-- more is open
pub opened_marked : (chains : Chains) (extracts : ExtractTable) (tables : Tables) (verdicts : Verdicts) (opens now : Opens) (cursors : List Marks) → MoreOpens opens now
    → ∥ AreMarked chains extracts tables verdicts opens cursors ∥₁ → ∥ AreMarked chains extracts tables verdicts now cursors ∥₁
opened_marked chains extracts tables verdicts opens now cursors more t = ∥∥₁_map t (kept_each chains extracts extracts tables verdicts verdicts opens now cursors
    (λ q own most. sought_opens extracts tables verdicts opens now own most more) (λ q own most. passed_opens extracts tables verdicts opens now own most more))

-- a peer has answered, and nothing of what was open to it is still to be asked for
pub answered_marked : (chains : Chains) (extracts : ExtractTable) (tables : Tables) (verdicts : Verdicts) (opens now : Opens) (cursors : List Marks) (p : ℕ) → Closes opens now p
    → ((block : Hash) → opens.filters p block ≡ true → IsUnjudged extracts tables verdicts block → ⊥) → ((block : Hash) → opens.blocks p block ≡ true → IsToFetch extracts tables verdicts block → ⊥)
    → ∥ AreMarked chains extracts tables verdicts opens cursors ∥₁ → ∥ AreMarked chains extracts tables verdicts now cursors ∥₁
answered_marked chains extracts tables verdicts opens now cursors p closes told got t = ∥∥₁_map t (kept_each chains extracts extracts tables verdicts verdicts opens now cursors
    (λ q own most. sought_closes extracts tables verdicts opens now p own most closes told) (λ q own most. passed_closes extracts tables verdicts opens now p own most closes got))

-- ---- a chain that grows

pub grown_marked : (extracts : ExtractTable) (tables : Tables) (verdicts : Verdicts) (opens : Opens) (p : ℕ) (hs : List Header) (own next : Chain) (marks : Marks) → accept hs own ≡ Longer next
    → IsMarked extracts tables verdicts opens p own marks → IsMarked extracts tables verdicts opens p next (lowered marks (link_height hs own))
grown_marked extracts tables verdicts opens p hs own next marks e m =
    let k = link_height hs own in
    let long : length next ≡ length hs + (length own - (length own - k)) =
    ap length (grown_is hs own next e) ∙ omega (arith, length-append (reverse hs) (lower k own), length-reverse hs, length-drop (length own - k) own) in
    let at : (h : ℕ) → h ≤ k → hash_at own h ≡ hash_at next h = λ h low. same_below hs own next h e low in
    record {
      on = (let a = m.on in omega (arith, long, a));
      seeks = (let a = m.seeks in omega (arith, a));
      passes = (let a = m.passes in omega (arith, a));
      claimed = λ h up low above. (let e = at h (omega (arith, low)) in subst (λ (x : Hash). IsSome (tables p x)) e (m.claimed h up (omega (arith, low)) (λ f. above (sym e ∙ f))));
      sought = sought_grown extracts tables verdicts opens hs own next marks.sought e m.sought;
      passed = passed_grown extracts tables verdicts opens hs own next marks.passed e m.passed;
    }

own_marked : (extracts : ExtractTable) (tables : Tables) (verdicts : Verdicts) (opens : Opens) (p : ℕ) (o : Option Chain) (marks : Marks) → IsSome o → MarkedAt extracts tables verdicts opens p o marks → IsMarked extracts tables verdicts opens p (unwrap_or o []) marks
own_marked extracts tables verdicts opens p None marks some m = cc some
own_marked extracts tables verdicts opens p (Some own) marks some m = m

pub at_peer : (chains : Chains) (extracts : ExtractTable) (tables : Tables) (verdicts : Verdicts) (opens : Opens) (cursors : List Marks) (p : PeerNo) → AreMarked chains extracts tables verdicts opens cursors → IsSome (chains p.0)
    → IsMarked extracts tables verdicts opens p.0 (own_of chains p) (marks_at cursors p.0)
at_peer chains extracts tables verdicts opens cursors p are some = own_marked extracts tables verdicts opens p.0 (chains p.0) (marks_at cursors p.0) some (are p.0)

-- a chain that stays
kept_marked : (chains next : Chains) (extracts : ExtractTable) (tables : Tables) (verdicts : Verdicts) (opens : Opens) (cursors : List Marks) (p : PeerNo)
    → AreMarked chains extracts tables verdicts opens cursors → IsSome (chains p.0) → Puts chains next p (Some (own_of chains p)) → AreMarked next extracts tables verdicts opens cursors
kept_marked chains next extracts tables verdicts opens cursors p are some puts q = elim (cases_eq q p.0) [
  | inl e ↦ subst (λ (k : ℕ). MarkedAt extracts tables verdicts opens k (next k) (marks_at cursors k)) (sym e)
      (subst (λ (o : Option Chain). MarkedAt extracts tables verdicts opens p.0 o (marks_at cursors p.0)) (sym puts.here) (at_peer chains extracts tables verdicts opens cursors p are some))
  | inr ne ↦ subst (λ (o : Option Chain). MarkedAt extracts tables verdicts opens q o (marks_at cursors q)) (sym (puts.others q ne)) (are q)
]

accepted_by : (chains next : Chains) (extracts : ExtractTable) (tables : Tables) (verdicts : Verdicts) (opens : Opens) (cursors : List Marks) (p : PeerNo) (hs : List Header) (a : Accepted)
    → AreMarked chains extracts tables verdicts opens cursors → IsSome (chains p.0) → accept hs (own_of chains p) ≡ a → Puts chains next p (Some (chain_after a (own_of chains p)))
    → AreMarked next extracts tables verdicts opens (fallen cursors p.0 (change_of (link_height hs (own_of chains p)) a))
accepted_by chains next extracts tables verdicts opens cursors p hs (Longer more) are some is puts =
    put_marked chains next extracts tables verdicts opens cursors p more (lowered (marks_at cursors p.0) (link_height hs (own_of chains p))) are puts
    (grown_marked extracts tables verdicts opens p.0 hs (own_of chains p) more (marks_at cursors p.0) is (at_peer chains extracts tables verdicts opens cursors p are some))
accepted_by chains next extracts tables verdicts opens cursors p hs NoLonger are some is puts = kept_marked chains next extracts tables verdicts opens cursors p are some puts
accepted_by chains next extracts tables verdicts opens cursors p hs Unlinked are some is puts = kept_marked chains next extracts tables verdicts opens cursors p are some puts
accepted_by chains next extracts tables verdicts opens cursors p hs (Invalid place fault) are some is puts = kept_marked chains next extracts tables verdicts opens cursors p are some puts
accepted_by chains next extracts tables verdicts opens cursors p hs TooHigh are some is puts = kept_marked chains next extracts tables verdicts opens cursors p are some puts

pub accepted_marked : (chains next : Chains) (extracts : ExtractTable) (tables : Tables) (verdicts : Verdicts) (opens : Opens) (cursors now : List Marks) (p : PeerNo) (hs : List Header) (change : Change)
    → ∥ AreMarked chains extracts tables verdicts opens cursors ∥₁ → IsSome (chains p.0) → change ≡ change_of (link_height hs (own_of chains p)) (accept hs (own_of chains p))
    → Puts chains next p (Some (chain_after (accept hs (own_of chains p)) (own_of chains p))) → now ≡ fallen cursors p.0 change → ∥ AreMarked next extracts tables verdicts opens now ∥₁
accepted_marked chains next extracts tables verdicts opens cursors now p hs change t some answer puts is =
    ∥∥₁_map t (λ are. subst (AreMarked next extracts tables verdicts opens) (sym (is ∙ ap (fallen cursors p.0) answer))
    (accepted_by chains next extracts tables verdicts opens cursors p hs (accept hs (own_of chains p)) are some refl puts))

-- ---- tables that grow

some_if : (b : Bool) (e : List TxExtract) (o : Option (List TxExtract)) → IsSome o → IsSome (if b then Some e else o)
some_if true e o some = refl
some_if false e o some = some

more_extracts : (chains : Chains) (extracts more : ExtractTable) (tables : Tables) (verdicts : Verdicts) (opens : Opens) (cursors : List Marks) → ((hash : Hash) → IsSome (extracts hash) → IsSome (more hash))
    → ∥ AreMarked chains extracts tables verdicts opens cursors ∥₁ → ∥ AreMarked chains more tables verdicts opens cursors ∥₁
more_extracts chains extracts more tables verdicts opens cursors grows t = ∥∥₁_map t (kept_each chains extracts more tables verdicts verdicts opens opens cursors
    (λ q own most. sought_extracts extracts more tables verdicts opens own most grows) (λ q own most. passed_extracts extracts more tables verdicts opens own most grows))

-- an extract is put, or there is no memory
pub put_either : (chains : Chains) (extracts more : ExtractTable) (tables : Tables) (verdicts : Verdicts) (opens : Opens) (cursors : List Marks) (at : Hash) (e : List TxExtract) (result : Result (Unit {0}) NoMemory)
    → OnOk result (IsSameTable more (with_extract at e extracts)) → OnErr result (IsSameTable more extracts)
    → ∥ AreMarked chains extracts tables verdicts opens cursors ∥₁ → ∥ AreMarked chains more tables verdicts opens cursors ∥₁
put_either chains extracts more tables verdicts opens cursors at e (Ok u) ok err t =
    more_extracts chains extracts more tables verdicts opens cursors (λ hash some. subst (λ (o : Option (List TxExtract)). IsSome o) (sym (ok hash)) (some_if (same at hash) (unwrap_or (extracts hash) e) (extracts hash) some)) t
put_either chains extracts more tables verdicts opens cursors at e (Err e2) ok err t =
    more_extracts chains extracts more tables verdicts opens cursors (λ hash some. subst (λ (o : Option (List TxExtract)). IsSome o) (sym (err hash)) some) t

-- verdicts came, and each mark fell to below the blocks that hit now
pub judged_marked : (chains : Chains) (extracts : ExtractTable) (tables : Tables) (verdicts new : Verdicts) (opens : Opens) (cursors now : List Marks) (watch : List (List ℕ)) (jobs : List Job) → MoreVerdicts verdicts new
    → ((block filter : Hash) → new block filter ≡ Some Hit → with_verdicts watch jobs verdicts block filter ≡ Some Hit)
    → ((q : ℕ) → IsFallen (chains q) (marks_at cursors q) (marks_at now q) jobs (map (verdict_of watch) jobs))
    → ∥ AreMarked chains extracts tables verdicts opens cursors ∥₁ → ∥ AreMarked chains extracts tables new opens now ∥₁
judged_marked chains extracts tables verdicts new opens cursors now watch jobs more hits fell t = ∥∥₁_map t (λ are q. by q (chains q) (fell q) (are q)) where
  by : (q : ℕ) (o : Option Chain) → IsFallen o (marks_at cursors q) (marks_at now q) jobs (map (verdict_of watch) jobs) → MarkedAt extracts tables verdicts opens q o (marks_at cursors q) → MarkedAt extracts tables new opens q o (marks_at now q)
  by q None f m = (m.0, f.sought ∙ m.1, (let z = m.2 in let low = f.low in omega (arith, z, low)))
  by q (Some own) f m =
      let e = f.sought in
      still_marked extracts extracts tables tables verdicts new opens opens q own (marks_at cursors q) (marks_at now q) m f.claimed (omega (arith, e)) f.low (λ block some. some)
      (λ claimed. sought_verdicts extracts tables verdicts new opens own (marks_at now q).sought more)
      (λ claimed. passed_part extracts tables verdicts new opens own (marks_at now q).passed watch jobs hits (f.apart own refl))

-- what is put where none stands stays
kept_all : (watch : List (List ℕ)) (jobs : List Job) (old : Verdicts) (block filter : Hash) (v : Verdict) → old block filter ≡ Some v → with_verdicts watch jobs old block filter ≡ Some v
kept_all watch [] old block filter v e = e
kept_all watch (j ∷ js) old block filter v e = kept_all watch js (with_verdict watch j old) block filter v (by (is_of j block filter)) where
  by : (b : Bool) → (if b then Some (kept_or (old block filter) (verdict_of watch j)) else old block filter) ≡ Some v
  by true = ap (λ (o : Option Verdict). Some (kept_or o (verdict_of watch j))) e
  by false = e

-- what hits once some of the verdicts are put hits once all are
pub hits_in_part : (watch : List (List ℕ)) (jobs : List Job) (old new : Verdicts) (result : Result (Unit {0}) NoMemory)
    → OnOk result (AreSameVerdicts new (with_verdicts watch jobs old)) → OnErr result (AreKeptInPart watch jobs old new)
    → (block filter : Hash) → new block filter ≡ Some Hit → with_verdicts watch jobs old block filter ≡ Some Hit
hits_in_part watch jobs old new (Ok u) ok err block filter e = sym (ok block filter) ∙ e
hits_in_part watch jobs old new (Err e2) ok err block filter e = sym (err.1 block filter) ∙ kept_all watch err.0 new block filter Hit e

-- ---- claims that are added

pub claims_out : (previous : Hash32) (blocks : List Hash) (hashes : List Hash32) (table : dispute.Table) (h : Hash) → (IsIn h blocks → ⊥) → with_claims previous blocks hashes table h ≡ table h
claims_out previous [] hashes table h out = refl
claims_out previous (b ∷ bs) [] table h out = refl
claims_out previous (b ∷ bs) (x ∷ xs) table h out =
    claims_out (claim_of x previous).header bs xs (with_claim b (claim_of x previous) table) h (λ i. out (inr i))
    ∙ ap (λ (t : Bool). if t then Some (claim_of x previous) else table h) (same_off b h (λ e. out (inl (sym e))))

-- claims of blocks that weren't claimed
pub adds_claims : (before after : Tables) (p : ℕ) (previous : Hash32) (blocks : List Hash) (hashes : List Hash32) → ((block : Hash) → IsIn block blocks → before p block ≡ None)
    → ((block : Hash) → after p block ≡ with_claims previous blocks hashes (before p) block) → ((q : ℕ) → q ≢ p → (block : Hash) → after q block ≡ before q block) → AddsClaims before after p
adds_claims before after p previous blocks hashes new is others = record {
  mine = λ block claim mine. elim (in_or_out block blocks) [
    | inl i ↦ absurd (let no : None ≡ Some claim = sym (new block i) ∙ mine in cc no)
    | inr out ↦ is block ∙ claims_out previous blocks hashes (before p) block out ∙ mine
  ];
  others = others;
}

-- nobody claims another thing of another block
pub others_same : (before after : Tables) (p : ℕ) (previous : Hash32) (blocks : List Hash) (hashes : List Hash32)
    → ((block : Hash) → after p block ≡ with_claims previous blocks hashes (before p) block) → ((q : ℕ) → q ≢ p → (block : Hash) → after q block ≡ before q block)
    → (block : Hash) → (IsIn block blocks → ⊥) → (q : ℕ) → after q block ≡ before q block
others_same before after p previous blocks hashes is others block out q = elim (cases_eq q p) [
  | inl e ↦ subst (λ (k : ℕ). after k block ≡ before k block) (sym e) (is block ∙ claims_out previous blocks hashes (before p) block out)
  | inr off ↦ others q off block
]

-- a dispute is one of claims that are there
pub differ_before : (before after : Tables) (block : Hash) → ((q : ℕ) → after q block ≡ before q block) → IsAt after block Differ → IsAt before block Differ
differ_before before after block same1 d =
    let c = d.1.1.1.1 in
    (d.0, (d.1.0, (d.1.1.0, (d.1.1.1.0, ((c.0.0, sym (same1 d.0) ∙ c.0.1, c.0.2), (c.1.0, sym (same1 d.1.0) ∙ c.1.1, c.1.2), c.2)))))

-- each peer's claims grow, or stay
some_more : (before after : Tables) (p q : ℕ) (block : Hash) → AddsClaims before after p → IsSome (before q block) → IsSome (after q block)
some_more before after p q block adds some =
    let mine = some_is (before q block) some in
    let c = claims_more before after p q block mine.0.hash adds (mine.0, mine.1, refl) in
    subst IsSome (sym c.1) refl

-- of a peer that isn't entered nothing is claimed
none_else : (chains : Chains) (before after : Tables) (p q : ℕ) (block : Hash) → IsSome (chains p) → AddsClaims before after p → chains q ≡ None → before q block ≡ None → after q block ≡ None
none_else chains before after p q block some adds off none = elim (cases_eq q p) [
  | inl e ↦ absurd (none_now (chains p) some (subst (λ (k : ℕ). chains k ≡ None) e off))
  | inr ne ↦ adds.others q ne block ∙ none
]

at_added : (chains : Chains) (extracts : ExtractTable) (before after : Tables) (verdicts : Verdicts) (opens : Opens) (p q : ℕ) (a b : Marks) → IsSome (chains p) → AddsClaims before after p
    → b.sought ≤ a.sought → b.passed ≤ a.passed
    → ((own : Chain) → IsMarked extracts before verdicts opens q own a → IsMarked extracts after verdicts opens q own b)
    → (o : Option Chain) → chains q ≡ o → MarkedAt extracts before verdicts opens q o a → MarkedAt extracts after verdicts opens q o b
at_added chains extracts before after verdicts opens p q a b some adds low1 low2 step None e m =
    (λ block. none_else chains before after p q block some adds e (m.0 block), (let z = m.1 in omega (arith, z, low1)), (let z = m.2 in omega (arith, z, low2)))
at_added chains extracts before after verdicts opens p q a b some adds low1 low2 step (Some own) e m = step own m

-- ---- claims that were just added

-- what is put in is there
put_stays : (previous : Hash32) (blocks : List Hash) (hashes : List Hash32) (table : dispute.Table) (h : Hash) → IsSome (table h) → IsSome (with_claims previous blocks hashes table h)
put_stays previous [] hashes table h some = some
put_stays previous (b ∷ bs) [] table h some = some
put_stays previous (b ∷ bs) (x ∷ xs) table h some = put_stays (claim_of x previous).header bs xs (with_claim b (claim_of x previous) table) h (some_or (same b h)) where
  some_or : (t : Bool) → IsSome (if t then Some (claim_of x previous) else table h)
  some_or true = refl
  some_or false = some

put_in : (previous : Hash32) (blocks : List Hash) (hashes : List Hash32) (table : dispute.Table) (h : Hash) → length blocks ≡ length hashes → IsIn h blocks → IsSome (with_claims previous blocks hashes table h)
put_in previous [] hashes table h long is = absurd is
put_in previous (b ∷ bs) [] table h long is = absurd (omega (arith, long))
put_in previous (b ∷ bs) (x ∷ xs) table h long (inl e) =
    put_stays (claim_of x previous).header bs xs (with_claim b (claim_of x previous) table) h
    (subst IsSome (sym (ap (λ (t : Bool). if t then Some (claim_of x previous) else table h) (same_from b h (sym e)))) refl)
put_in previous (b ∷ bs) (x ∷ xs) table h long (inr later) = put_in (claim_of x previous).header bs xs (with_claim b (claim_of x previous) table) h (omega (arith, long)) later

-- as many hashes as blocks
same_count : (expected : Option Hash32) (wanted : ℕ) (previous : Hash32) (got : ℕ) → claim_fault expected wanted previous got ≡ None → wanted ≡ got
same_count expected wanted previous got none = elim (cases_eq wanted got) [
  | inl e ↦ e
  | inr ne ↦ absurd (
      let off : (wanted == got) ≡ false = false_from_ne_true (wanted == got) (λ e. ne ((Decides-eqb wanted got).0 e)) in
      let no : Some (Count wanted got) ≡ None = sym (ap (λ (t : Bool). if t then previous_fault expected previous else Some (Count wanted got)) off) ∙ none in
      cc no
      )
]

-- what a peer claims of blocks of its chain above its mark
abbrev pub Along : Tables → ℕ → Chain → ℕ → ℕ → Type 0
Along tables p own from most = (h : ℕ) → from < h → h ≤ most → IsSome (tables p (hash_at own h))

added_along : (before after : Tables) (p : ℕ) (own : Chain) (from most : ℕ) (expected : Option Hash32) (previous : Hash32) (blocks hashes : List Hash32)
    → claim_fault expected (length blocks) previous (length hashes) ≡ None
    → ((block : Hash) → after p block ≡ with_claims previous (blocks_of blocks) hashes (before p) block)
    → AreAmong own from most blocks → Along after p own from most
added_along before after p own from most expected previous blocks hashes none is along h lt le =
    let long : length (blocks_of blocks) ≡ length hashes = length-map blocks (λ (x : Hash32). x.0) ∙ same_count expected (length blocks) previous (length hashes) none in
    subst IsSome (sym (is (hash_at own h))) (put_in previous (blocks_of blocks) hashes (before p) (hash_at own h) long (along h lt le))

further_marked : (extracts : ExtractTable) (tables : Tables) (verdicts : Verdicts) (opens : Opens) (p : ℕ) (own : Chain) (marks : Marks) (n : ℕ) → IsMarked extracts tables verdicts opens p own marks
    → marks.claimed ≤ n → n ≤ length own → Along tables p own marks.claimed n → IsMarked extracts tables verdicts opens p own (record marks { claimed = n })
further_marked extracts tables verdicts opens p own marks n m up1 on along = record {
  on = on;
  seeks = (let a = m.seeks in omega (arith, a, up1));
  passes = (let a = m.passes in omega (arith, a, up1));
  claimed = λ h up low above. elim (cases_lt marks.claimed h) [ inl lt ↦ along h lt low | inr ge ↦ m.claimed h up ge above ];
  sought = m.sought;
  passed = m.passed;
}

some_own : (o : Option Chain) → IsSome o → o ≡ Some (unwrap_or o [])
some_own None some = cc some
some_own (Some own) some = refl

-- the marks of each peer, changed in one way, where p claims further
further_each : (chains : Chains) (extracts : ExtractTable) (tables : Tables) (verdicts : Verdicts) (opens : Opens) (cursors : List Marks) (p n : ℕ) (u : Marks → Marks) → IsSome (chains p)
    → ((q : ℕ) → MarkedAt extracts tables verdicts opens q (chains q) (u (marks_at cursors q)))
    → (IsMarked extracts tables verdicts opens p (unwrap_or (chains p) []) (u (marks_at cursors p)) → IsMarked extracts tables verdicts opens p (unwrap_or (chains p) []) (u (record (marks_at cursors p) { claimed = n })))
    → IsMarked extracts tables verdicts opens p (unwrap_or (chains p) []) (u no_marks)
    → (q : ℕ) → MarkedAt extracts tables verdicts opens q (chains q) (u (marks_at (further cursors p n) q))
further_each chains extracts tables verdicts opens cursors p n u some each step none q = elim (cases_eq q p) [
  | inl e ↦ subst (λ (k : ℕ). MarkedAt extracts tables verdicts opens k (chains k) (u (marks_at (further cursors p n) k))) (sym e)
      (subst (λ (o : Option Chain). MarkedAt extracts tables verdicts opens p o (u (marks_at (further cursors p n) p))) (sym (some_own (chains p) some))
      (here (set_here cursors p (record (marks_at cursors p) { claimed = n }))))
  | inr ne ↦ subst (λ (m : Marks). MarkedAt extracts tables verdicts opens q (chains q) (u m)) (sym (set_other cursors p (record (marks_at cursors p) { claimed = n }) q ne)) (each q)
] where
  own : Chain
  own = unwrap_or (chains p) []

  now : Marks
  now = marks_at (further cursors p n) p

  here : (now ≡ record (marks_at cursors p) { claimed = n }) ⊎ (now ≡ no_marks) → IsMarked extracts tables verdicts opens p own (u now)
  here (inl e) = subst (λ (m : Marks). IsMarked extracts tables verdicts opens p own (u m)) (sym e) (step (own_marked extracts tables verdicts opens p (chains p) (u (marks_at cursors p)) some (each p)))
  here (inr e) = subst (λ (m : Marks). IsMarked extracts tables verdicts opens p own (u m)) (sym e) none

-- p claims further, along its chain
abbrev pub GoesFurther : Chains → Tables → List Marks → ℕ → ℕ → Type 0
GoesFurther chains tables cursors p n =
    let own = unwrap_or (chains p) [] in
    let from = (marks_at cursors p).claimed in
    (from ≤ n) × (n ≤ length own) × Along tables p own from n

pub goes_further : (chains : Chains) (before after : Tables) (cursors : List Marks) (p : PeerNo) (marks : Marks) (n : ℕ) (expected : Option Hash32) (previous : Hash32) (blocks hashes : List Hash32)
    → marks ≡ marks_at cursors p.0 → claim_fault expected (length blocks) previous (length hashes) ≡ None
    → ((block : Hash) → after p.0 block ≡ with_claims previous (blocks_of blocks) hashes (before p.0) block)
    → marks.claimed ≤ n → n ≤ length (own_of chains p) → AreAmong (own_of chains p) marks.claimed n blocks → GoesFurther chains after cursors p.0 n
goes_further chains before after cursors p marks n expected previous blocks hashes are none is up1 on along =
    let own = own_of chains p in
    subst (λ (m : Marks). (m.claimed ≤ n) × (n ≤ length own) × Along after p.0 own m.claimed n) are
    (up1, on, added_along before after p.0 own marks.claimed n expected previous blocks hashes none is along)

-- where no block is in dispute that wasn't, the marks stay
pub added_marked : (chains : Chains) (extracts : ExtractTable) (before after : Tables) (verdicts : Verdicts) (opens : Opens) (cursors : List Marks) (p : ℕ) (n : ℕ) (previous : Hash32) (blocks : List Hash) (hashes : List Hash32)
    → IsSome (chains p) → ((block : Hash) → IsIn block blocks → before p block ≡ None)
    → ((block : Hash) → after p block ≡ with_claims previous blocks hashes (before p) block) → ((q : ℕ) → q ≢ p → (block : Hash) → after q block ≡ before q block)
    → ((block : Hash) → IsIn block blocks → extracts block ≡ None → IsAt after block Differ → ⊥)
    → GoesFurther chains after cursors p n
    → ∥ AreMarked chains extracts before verdicts opens cursors ∥₁ → ∥ AreMarked chains extracts after verdicts opens (further cursors p n) ∥₁
added_marked chains extracts before after verdicts opens cursors p n previous blocks hashes some new is others quiet goes t =
    let adds = adds_claims before after p previous blocks hashes new is others in
    let undisputed : (block : Hash) → extracts block ≡ None → IsAt after block Differ → IsAt before block Differ =
    λ block none differ. elim (in_or_out block blocks) [
      | inl i ↦ absurd (quiet block i none differ)
      | inr out ↦ differ_before before after block (others_same before after p previous blocks hashes is others block out) differ
    ] in
    ∥∥₁_map t (λ are. further_each chains extracts after verdicts opens cursors p n (λ m. m) some
    (λ q. at_added chains extracts before after verdicts opens p q (marks_at cursors q) (marks_at cursors q) some adds (omega arith) (omega arith)
    (λ own m. still_marked extracts extracts before after verdicts verdicts opens opens q own (marks_at cursors q) (marks_at cursors q) m refl (omega arith) (omega arith)
    (λ block some1. some_more before after p q block adds some1)
    (λ claimed. sought_claims extracts before after verdicts opens p q own (marks_at cursors q).sought adds claimed)
    (λ claimed. passed_claims extracts before after verdicts opens p q own (marks_at cursors q).passed adds claimed undisputed))
    (chains q) refl (are q))
    (λ m. further_marked extracts after verdicts opens p (unwrap_or (chains p) []) (marks_at cursors p) n m goes.0 goes.1 goes.2)
    (nothing_marked extracts after verdicts opens p (unwrap_or (chains p) [])))

pub disputed_marked : (chains : Chains) (extracts : ExtractTable) (before after : Tables) (verdicts : Verdicts) (opens : Opens) (cursors now : List Marks) (p n : ℕ) (previous : Hash32) (blocks : List Hash) (hashes : List Hash32)
    → IsSome (chains p) → ((block : Hash) → IsIn block blocks → before p block ≡ None)
    → ((block : Hash) → after p block ≡ with_claims previous blocks hashes (before p) block) → ((q : ℕ) → q ≢ p → (block : Hash) → after q block ≡ before q block)
    → ((q : ℕ) → marks_at now q ≡ unpassed (marks_at (further cursors p n) q)) → GoesFurther chains after cursors p n
    → ∥ AreMarked chains extracts before verdicts opens cursors ∥₁ → ∥ AreMarked chains extracts after verdicts opens now ∥₁
disputed_marked chains extracts before after verdicts opens cursors now p n previous blocks hashes some new is others fell goes t =
    let adds = adds_claims before after p previous blocks hashes new is others in
    ∥∥₁_map t (λ are k. subst (λ (m : Marks). MarkedAt extracts after verdicts opens k (chains k) m) (sym (fell k))
    (further_each chains extracts after verdicts opens cursors p n unpassed some
    (λ q. at_added chains extracts before after verdicts opens p q (marks_at cursors q) (unpassed (marks_at cursors q)) some adds (omega arith) (omega arith)
    (λ own m. still_marked extracts extracts before after verdicts verdicts opens opens q own (marks_at cursors q) (unpassed (marks_at cursors q)) m refl (omega arith) (omega arith)
    (λ block some1. some_more before after p q block adds some1)
    (λ claimed. sought_claims extracts before after verdicts opens p q own (marks_at cursors q).sought adds claimed)
    (λ claimed are1 h up low is1. absurd (omega (arith, up, low))))
    (chains q) refl (are q))
    (λ m. further_marked extracts after verdicts opens p (unwrap_or (chains p) []) (unpassed (marks_at cursors p)) n m goes.0 goes.1 goes.2)
    (nothing_marked extracts after verdicts opens p (unwrap_or (chains p) []))
    k))

-- the same claims
pub same_claims : (chains : Chains) (extracts : ExtractTable) (before after : Tables) (verdicts : Verdicts) (opens : Opens) (cursors : List Marks) → ((p : ℕ) (block : Hash) → after p block ≡ before p block)
    → ∥ AreMarked chains extracts before verdicts opens cursors ∥₁ → ∥ AreMarked chains extracts after verdicts opens cursors ∥₁
same_claims chains extracts before after verdicts opens cursors is t = ∥∥₁_map t (λ are q.
    let adds : AddsClaims before after q = record { mine = λ block claim mine. is q block ∙ mine; others = λ k ne block. is k block } in
    at_each extracts extracts before after verdicts verdicts opens opens q (chains q) (marks_at cursors q) (marks_at cursors q) (λ block none. is q block ∙ none) (omega arith) (omega arith)
    (λ own m. still_marked extracts extracts before after verdicts verdicts opens opens q own (marks_at cursors q) (marks_at cursors q) m refl (omega arith) (omega arith)
    (λ block some. subst IsSome (sym (is q block)) some)
    (λ claimed. sought_claims extracts before after verdicts opens q q own (marks_at cursors q).sought adds claimed)
    (λ claimed. passed_claims extracts before after verdicts opens q q own (marks_at cursors q).passed adds claimed (λ block none differ. differ_before before after block (λ k. is k block) differ)))
    (are q))

pub all_same : (before after : Tables) (p : ℕ) → ((block : Hash) → after p block ≡ before p block) → ((q : ℕ) → q ≢ p → (block : Hash) → after q block ≡ before q block) → (q : ℕ) (block : Hash) → after q block ≡ before q block
all_same before after p here others q block = elim (cases_eq q p) [
  | inl e ↦ subst (λ (k : ℕ). after k block ≡ before k block) (sym e) (here block)
  | inr off ↦ others q off block
]
