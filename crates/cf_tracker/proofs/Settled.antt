-- Marks once a peer is forgotten.
use Rattle.std.proofs.Common.{◌≡◌, ◌≢◌, ◌⊎◌, inl, inr, ℕ, Bool, true, false, List, length, Option, Some, None, refl, sym, ◌∙◌, ap, subst, arith}
use Rattle.std.proofs.Math.Logic.{∥∥₁_map}
use Rattle.std.specs.Prelude.{IsSome, slice_set}
use Rattle.std.proofs.lemmas.Grind.{common_steps}
use Rattle.std.proofs.lemmas.Bool.{cases_Bool, cases_eq, cases_lt, false≢true}
use Rattle.cf_bytes.specs.declared.hash.Hash32.{Hash32}
use Rattle.cf_bytes.specs.declared.peer.PeerNo.{PeerNo}
use Rattle.cf_dispute.specs.declared.claim.At.TheVariants.{One, Differ}
use Rattle.cf_dispute.specs.declared.claim.Claim.{Claim}
use Rattle.cf_dispute.specs.Claims.{Tables, Claims, IsAt}
use Rattle.cf_dispute.proofs.PutIn.{same_from}
use Rattle.cf_headers.specs.Chain.{Hash, Chain}
use Rattle.cf_headers.specs.Heights.{hash_at}
use Rattle.cf_headers.specs.Rules.{same}
use Rattle.cf_headers.specs.Store.{Chains, Puts}
use Rattle.cf_match.specs.Verdicts.{Verdicts}
use Rattle.cf_seek.specs.declared.cursors.Marks.{Marks}
use Rattle.cf_seek.specs.Cursors.{marks_at, no_marks, settled}
use Rattle.cf_seek.specs.Opens.{IsBlockFree, IsFilterFree, Opens}
use Rattle.cf_seek.specs.Opening.{Closes}
use Rattle.cf_seek.specs.Tracking.{AreMarked, MarkedAt}
use Rattle.cf_seek.proofs.SoughtStays.{same_true}
use Rattle.cf_tables.specs.Known.{ExtractTable}
use Rattle.cf_tables.specs.Wanting.{IsToFetch, IsUnjudged}
use Rattle.cf_tables.specs.Claiming.{ForgetsClaims}
use Rattle.cf_seek.proofs.Disputed.{claimed_before, forgotten_differ}

-- ---- one block

-- all that is claimed of a block was all that was, or they differed
was_at : (before after : Tables) (p : ℕ) (block : Hash) (hash : Hash32) → ForgetsClaims before after p → IsAt after block (One hash)
    → IsAt before block (One hash) ⊎ IsAt before block Differ
was_at before after p block hash forgets at = by (before p block) refl where
  someone : Claims before at.0.0 block hash
  someone = (at.0.1.0, claimed_before before after p forgets at.0.0 block at.0.1.0 at.0.1.1, at.0.1.2)

  only : ((claim : Claim) → before p block ≡ Some claim → claim.hash ≡ hash) → (q : ℕ) (other : Hash32) → Claims before q block other → other ≡ hash
  only mine q other c = elim (cases_eq q p) [
    | inl e ↦ sym c.2 ∙ mine c.0 (ap (λ (k : ℕ). before k block) (sym e) ∙ c.1)
    | inr ne ↦ at.1 q other (c.0, forgets.others q ne block ∙ c.1, c.2)
  ]

  by : (o : Option Claim) → before p block ≡ o → IsAt before block (One hash) ⊎ IsAt before block Differ
  by None e = inl ((at.0.0, someone), only (λ claim is. (let no : None ≡ Some claim = sym e ∙ is in cc no)))
  by (Some c) e = elim (cases_Bool (same c.hash.0 hash.0)) [
    | inl equal ↦ (
        let bytes : c.hash.0 ≡ hash.0 = same_true c.hash.0 hash.0 equal in
        let is1 : c.hash ≡ hash = ap (λ (b : List ℕ). let h : Hash32 = record { 0 = b } in h) bytes in
        inl ((at.0.0, someone), only (λ claim is. (let one : Some c ≡ Some claim = sym e ∙ is in let this : claim ≡ c = cc one in ap (λ (x : Claim). x.hash) this ∙ is1)))
        )
    | inr off ↦ inr (
      at.0.0,
      (
        p,
        (
          hash,
          (
            c.hash,
            (
              someone,
              (c, e, refl),
              λ is. false≢true (sym off ∙ same_from c.hash.0 hash.0 (ap (λ (x : Hash32). x.0) (sym is))),
            ),
          ),
        ),
      ),
    )
  ]

-- what is to be fetched was to be fetched
due_before : (extracts : ExtractTable) (before after : Tables) (verdicts : Verdicts) (p : ℕ) (block : Hash) → ForgetsClaims before after p
    → IsToFetch extracts after verdicts block → IsToFetch extracts before verdicts block
due_before extracts before after verdicts p block forgets (none, inl differ) = (none, inl (forgotten_differ before after p forgets block differ))
due_before extracts before after verdicts p block forgets (none, inr hit) = elim (was_at before after p block hit.0 forgets hit.1) [
  | inl one ↦ (none, inr (hit.0, one, hit.2))
  | inr differ ↦ (none, inl differ)
]

-- what is to be asked for was to be asked for, or the block was to be fetched
un_before : (extracts : ExtractTable) (before after : Tables) (verdicts : Verdicts) (p : ℕ) (block : Hash) → ForgetsClaims before after p
    → IsUnjudged extracts after verdicts block → IsUnjudged extracts before verdicts block ⊎ IsToFetch extracts before verdicts block
un_before extracts before after verdicts p block forgets un = elim (was_at before after p block un.1.0 forgets un.1.1) [
  | inl one ↦ inl (un.0, (un.1.0, one, un.1.2))
  | inr differ ↦ inr (un.0, inl differ)
]

not_true : (b : Bool) → (b ≡ true → ⊥) → b ≡ false
not_true b never = elim (cases_Bool b) [ inl is ↦ absurd (never is) | inr off ↦ off ]

blocks_before : (opens now : Opens) (p : ℕ) (block : Hash) → Closes opens now p → (opens.blocks p block ≡ true → ⊥)
    → IsBlockFree now block → IsBlockFree opens block
blocks_before opens now p block closes never free q = elim (cases_eq q p) [
  | inl e ↦ subst (λ (k : ℕ). opens.blocks k block ≡ false) (sym e) (not_true (opens.blocks p block) never)
  | inr ne ↦ sym (closes.others.blocks q ne block) ∙ free q
]

filters_before : (opens now : Opens) (p : ℕ) (block : Hash) → Closes opens now p → (opens.filters p block ≡ true → ⊥)
    → IsFilterFree now block → IsFilterFree opens block
filters_before opens now p block closes never free q = elim (cases_eq q p) [
  | inl e ↦ subst (λ (k : ℕ). opens.filters k block ≡ false) (sym e) (not_true (opens.filters p block) never)
  | inr ne ↦ sym (closes.others.filters q ne block) ∙ free q
]

-- ---- all peers

set_other : (xs : List Marks) (p : ℕ) (v : Marks) (q : ℕ) → q ≢ p → marks_at (slice_set xs p v) q ≡ marks_at xs q
set_other xs p v q ne = elim (cases_lt p (length xs)) [
  | inl lt ↦ grind (arith, common_steps)
  | inr ge ↦ grind (arith, common_steps)
]

cleared : (xs : List Marks) (p : ℕ) → marks_at (slice_set xs p no_marks) p ≡ no_marks
cleared xs p = elim (cases_lt p (length xs)) [
  | inl lt ↦ grind (arith, common_steps)
  | inr ge ↦ grind (arith, common_steps)
]

-- nothing that was open to p is still to be asked for, and no block is open to anybody
pub record IsQuiet (extracts : ExtractTable) (tables : Tables) (verdicts : Verdicts) (opens now : Opens) (p : ℕ) : Type 0 where
  pub closes : Closes opens now p
  pub told : (block : Hash) → opens.filters p block ≡ true → IsUnjudged extracts tables verdicts block → ⊥
  pub got : (block : Hash) → opens.blocks p block ≡ true → IsToFetch extracts tables verdicts block → ⊥
  pub free : (block : Hash) → IsBlockFree now block

other_settled : (extracts : ExtractTable) (before after : Tables) (verdicts : Verdicts) (opens now : Opens) (p q : ℕ) (o : Option Chain) (marks : Marks)
    → ForgetsClaims before after p → q ≢ p → IsQuiet extracts before verdicts opens now p
    → MarkedAt extracts before verdicts opens q o marks → MarkedAt extracts after verdicts now q o (settled marks)
other_settled extracts before after verdicts opens now p q None marks forgets ne quiet m =
    (λ block. forgets.others q ne block ∙ m.0 block, (let z = m.1 in omega (arith, z)), m.2)
other_settled extracts before after verdicts opens now p q (Some own) marks forgets ne quiet m = record {
  on = m.on;
  seeks = (let le = m.seeks in omega (arith, le));
  passes = m.passes;
  claimed = λ h up low above. subst IsSome (sym (forgets.others q ne (hash_at own h))) (m.claimed h up low above);
  sought = λ h up low ask.
      let block = hash_at own h in
      elim (un_before extracts before after verdicts p block forgets ask.un) [
        | inl un ↦ m.sought h up (omega (arith, low))
            (record { above = ask.above; un = un; free = filters_before opens now p block quiet.closes (λ is. quiet.told block is un) ask.free })
        | inr due ↦ m.passed h up (omega (arith, low))
            (record { above = ask.above; due = due; free = blocks_before opens now p block quiet.closes (λ is. quiet.got block is due) (quiet.free block) })
      ];
  passed = λ h up low get.
      let block = hash_at own h in
      let due = due_before extracts before after verdicts p block forgets get.due in
      m.passed h up low
      (record { above = get.above; due = due; free = blocks_before opens now p block quiet.closes (λ is. quiet.got block is due) get.free });
}

pub settled_marked : (chains next : Chains) (extracts : ExtractTable) (before after : Tables) (verdicts : Verdicts) (opens open_now : Opens)
    (cursors now : List Marks) (p : PeerNo) → Puts chains next p None → ForgetsClaims before after p.0
    → IsQuiet extracts before verdicts opens open_now p.0 → ((q : ℕ) → marks_at now q ≡ settled (marks_at (slice_set cursors p.0 no_marks) q))
    → ∥ AreMarked chains extracts before verdicts opens cursors ∥₁ → ∥ AreMarked next extracts after verdicts open_now now ∥₁
settled_marked chains next extracts before after verdicts opens open_now cursors now p puts forgets quiet fell t = ∥∥₁_map t (λ are q. elim (cases_eq q p.0) [
  | inl e ↦ subst (λ (k : ℕ). MarkedAt extracts after verdicts open_now k (next k) (marks_at now k)) (sym e)
      (subst (λ (o : Option Chain). MarkedAt extracts after verdicts open_now p.0 o (marks_at now p.0)) (sym puts.here)
      (let here : marks_at now p.0 ≡ settled no_marks = fell p.0 ∙ ap settled (cleared cursors p.0) in
      (forgets.gone, ap (λ (m : Marks). m.sought) here, ap (λ (m : Marks). m.passed) here)))
  | inr ne ↦ subst (λ (o : Option Chain). MarkedAt extracts after verdicts open_now q o (marks_at now q)) (sym (puts.others q ne))
      (subst (λ (m : Marks). MarkedAt extracts after verdicts open_now q (chains q) m) (sym (fell q ∙ ap settled (set_other cursors p.0 no_marks q ne)))
      (other_settled extracts before after verdicts opens open_now p.0 q (chains q) (marks_at cursors q) forgets ne quiet (are q)))
])
