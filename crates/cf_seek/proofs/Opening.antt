-- The marks of a peer, found out.
use Rattle.std.proofs.Common.{◌≡◌, ◌⊎◌, inl, inr, ℕ, ◌<◌, ◌≤◌, List, [], length, Option, Some, None, refl, arith}
use Rattle.std.proofs.Math.Logic.{∥∥₁_map}
use Rattle.std.specs.Prelude.{IsSome, unwrap_or, slice_set}
use Rattle.std.proofs.lemmas.Bool.{cases_lt}
use Rattle.std.proofs.lemmas.Grind.{not_there}
use Rattle.cf_bytes.specs.declared.peer.PeerNo.{PeerNo}
use Rattle.cf_dispute.specs.Claims.{Tables}
use Rattle.cf_headers.specs.Chain.{Chain}
use Rattle.cf_headers.specs.Heights.{hash_at}
use Rattle.cf_headers.specs.Store.{Chains, own_of}
use Rattle.cf_match.specs.Verdicts.{Verdicts}
use Rattle.cf_seek.specs.declared.cursors.Marks.{Marks}
use Rattle.cf_seek.specs.Cursors.{marks_at}
use Rattle.cf_seek.specs.Opens.{Opens}
use Rattle.cf_tables.specs.Known.{ExtractTable}
use Rattle.cf_seek.specs.Tracking.{IsMarked, IsWithin, MarkedAt, AreMarked}
use Rattle.cf_seek.proofs.Marked.{put_marked}

-- what isn't refuted is so
stable_some : {A : Type 0} (o : Option A) → ((IsSome o → ⊥) → ⊥) → IsSome o
stable_some None so = absurd (so (λ s. cc s))
stable_some (Some x) so = refl

stable_le : (a b : ℕ) → ((a ≤ b → ⊥) → ⊥) → a ≤ b
stable_le a b so = elim (cases_lt b a) [ inl lt ↦ absurd (so (λ le. omega (arith, lt, le))) | inr ge ↦ ge ]

own_marked : (extracts : ExtractTable) (tables : Tables) (verdicts : Verdicts) (opens : Opens) (p : ℕ) (o : Option Chain) (marks : Marks) → IsSome o → MarkedAt extracts tables verdicts opens p o marks
    → IsMarked extracts tables verdicts opens p (unwrap_or o []) marks
own_marked extracts tables verdicts opens p None marks some m = cc some
own_marked extracts tables verdicts opens p (Some own) marks some m = m

some_own : (o : Option Chain) → IsSome o → o ≡ Some (unwrap_or o [])
some_own None some = cc some
some_own (Some own) some = refl

-- the marks of an entered peer
pub opened : (chains : Chains) (extracts : ExtractTable) (tables : Tables) (verdicts : Verdicts) (opens : Opens) (cursors : List Marks) (p : PeerNo) → IsSome (chains p.0)
    → ∥ AreMarked chains extracts tables verdicts opens cursors ∥₁ → IsMarked extracts tables verdicts opens p.0 (own_of chains p) (marks_at cursors p.0)
opened chains extracts tables verdicts opens cursors p some t =
    let own = own_of chains p in
    let marks = marks_at cursors p.0 in
    let so : ((IsMarked extracts tables verdicts opens p.0 own marks → ⊥) → ⊥) = λ no. not_there t (λ are. no (own_marked extracts tables verdicts opens p.0 (chains p.0) marks some (are p.0))) in
    record {
      on = stable_le marks.claimed (length own) (λ no. so (λ m. no m.on));
      seeks = stable_le marks.sought marks.claimed (λ no. so (λ m. no m.seeks));
      passes = stable_le marks.passed marks.claimed (λ no. so (λ m. no m.passes));
      claimed = λ h up low above. stable_some (tables p.0 (hash_at own h)) (λ no. so (λ m. no (m.claimed h up low above)));
      sought = λ h up low ask. so (λ m. m.sought h up low ask);
      passed = λ h up low get. so (λ m. m.passed h up low get);
    }

-- a number of whose blocks something is marked is an entered peer's
some_marked : (extracts : ExtractTable) (tables : Tables) (verdicts : Verdicts) (opens : Opens) (q : ℕ) (o : Option Chain) (marks : Marks) → MarkedAt extracts tables verdicts opens q o marks
    → (0 < marks.sought) ⊎ (0 < marks.passed) → IsSome o
some_marked extracts tables verdicts opens q None marks m (inl lt) = absurd (let none = m.1 in omega (arith, lt, none))
some_marked extracts tables verdicts opens q None marks m (inr lt) = absurd (let none = m.2 in omega (arith, lt, none))
some_marked extracts tables verdicts opens q (Some own) marks m lt = refl

pub entered_by : (chains : Chains) (extracts : ExtractTable) (tables : Tables) (verdicts : Verdicts) (opens : Opens) (cursors : List Marks) (q : ℕ)
    → (0 < (marks_at cursors q).sought) ⊎ (0 < (marks_at cursors q).passed) → ∥ AreMarked chains extracts tables verdicts opens cursors ∥₁ → IsSome (chains q)
entered_by chains extracts tables verdicts opens cursors q lt t =
    stable_some (chains q) (λ no. not_there t (λ are. no (some_marked extracts tables verdicts opens q (chains q) (marks_at cursors q) (are q) lt)))

pub within_each : (chains : Chains) (extracts : ExtractTable) (tables : Tables) (verdicts : Verdicts) (opens : Opens) (cursors : List Marks) → ∥ AreMarked chains extracts tables verdicts opens cursors ∥₁
    → (q : ℕ) → IsWithin (chains q) (marks_at cursors q)
within_each chains extracts tables verdicts opens cursors t q lt =
    let some = entered_by chains extracts tables verdicts opens cursors q (inr lt) t in
    let p : PeerNo = record { 0 = q } in
    let m = opened chains extracts tables verdicts opens cursors p some t in
    let a = m.on in
    let b = m.passes in
    (unwrap_or (chains q) [], (some_own (chains q) some, omega (arith, a, b)))

pub up_marked : (chains : Chains) (extracts : ExtractTable) (tables : Tables) (verdicts : Verdicts) (opens : Opens) (cursors : List Marks) (p : PeerNo) (marks : Marks) → IsSome (chains p.0)
    → IsMarked extracts tables verdicts opens p.0 (own_of chains p) marks
    → ∥ AreMarked chains extracts tables verdicts opens cursors ∥₁ → ∥ AreMarked chains extracts tables verdicts opens (slice_set cursors p.0 marks) ∥₁
up_marked chains extracts tables verdicts opens cursors p marks some here t =
    ∥∥₁_map t (λ are. put_marked chains chains extracts tables verdicts opens cursors p (own_of chains p) marks are (record { here = some_own (chains p.0) some; others = λ q ne. refl }) here)
