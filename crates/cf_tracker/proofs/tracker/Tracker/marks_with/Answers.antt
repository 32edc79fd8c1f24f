use Rattle.std.proofs.Common.{◌≡◌, ◌⊎◌, inl, inr, ℕ, ◌<◌, List, arith}
use Rattle.std.specs.Prelude.{IsSome}
use Rattle.cf_bytes.specs.declared.peer.PeerNo.{PeerNo}
use Rattle.cf_dispute.specs.Claims.{Tables}
use Rattle.cf_dispute.specs.Of.{tables_of}
use Rattle.cf_headers.specs.Store.{Chains, own_of}
use Rattle.cf_match.specs.Verdicts.{Verdicts}
use Rattle.cf_seek.specs.declared.cursors.Marks.{Marks}
use Rattle.cf_seek.specs.Cursors.{marks_at}
use Rattle.cf_seek.specs.Opens.{Opens}
use Rattle.cf_seek.specs.OpensAll.{opens_in}
use Rattle.cf_seek.specs.Seeking.{IsToAsk, IsToGet}
use Rattle.cf_seek.specs.Tracking.{AreMarked, IsMarked}
use Rattle.cf_seek.proofs.Opening.{entered_by, opened}
use Rattle.cf_seek.proofs.Shared.{none_higher}
use Rattle.cf_tables.specs.Extracts.{table_in}
use Rattle.cf_tables.specs.Judged.{verdicts_in}
use Rattle.cf_tables.specs.Known.{ExtractTable}
use Rattle.cf_tracker.proofs.tracker.Tracker.marks_with.Goals as goal
use Rattle.cf_tracker.proofs.tracker.Tracker.marks_with.Goals.{else-theirs-sought-via-then-theirs-sought+else-theirs-passed, else-theirs-sought-via-else-theirs-sought}

-- a peer of whose blocks something is marked is entered, and its marks are so
theirs_are : (chains : Chains) (extracts : ExtractTable) (tables : Tables) (verdicts : Verdicts) (opens : Opens) (cursors : List Marks)
    (q : PeerNo) (theirs : Marks) → theirs ≡ marks_at cursors q.0 → (0 < theirs.sought) ⊎ (0 < theirs.passed)
    → ∥ AreMarked chains extracts tables verdicts opens cursors ∥₁
    → IsSome (chains q.0) × IsMarked extracts tables verdicts opens q.0 (own_of chains q) theirs
theirs_are chains extracts tables verdicts opens cursors q theirs is some t =
    let there = entered_by chains extracts tables verdicts opens cursors q.0 (rw is at some) t in
    (there, rw is (opened chains extracts tables verdicts opens cursors q there t))

pub common-common-requires-clause-second : goal.common-common-requires-clause-second
common-common-requires-clause-second g c =
    let now = c.args.self.now in
    let some : (0 < c.of-theirs.result.sought) ⊎ (0 < c.of-theirs.result.passed) = elim c.else-theirs-sought.branch [
      | else-theirs-sought-via-then-theirs-sought+else-theirs-passed w ↦ inr (let lt = w.if-theirs-passed.false in omega (arith, lt))
      | else-theirs-sought-via-else-theirs-sought w ↦ inl (let lt = w.if-theirs-sought.false in omega (arith, lt))
    ] in
    (theirs_are (g.H.HeaderStore.chain now.store) (table_in now.extracts) (tables_of now.claims) (verdicts_in now.judged)
    (opens_in now.opens) now.cursors c.args.q c.of-theirs.result c.of-theirs.ensures some now.marks).0

pub returns : goal.returns
returns g c =
    let now = c.args.self.now in
    let chains = g.H.HeaderStore.chain now.store in
    let extracts = table_in now.extracts in
    let tables = tables_of now.claims in
    let verdicts = verdicts_in now.judged in
    let opens = opens_in now.opens in
    let some : (0 < c.of-theirs.result.sought) ⊎ (0 < c.of-theirs.result.passed) = elim c.else-theirs-sought.branch [
      | else-theirs-sought-via-then-theirs-sought+else-theirs-passed w ↦ inr (let lt = w.if-theirs-passed.false in omega (arith, lt))
      | else-theirs-sought-via-else-theirs-sought w ↦ inl (let lt = w.if-theirs-sought.false in omega (arith, lt))
    ] in
    let theirs = (theirs_are chains extracts tables verdicts opens now.cursors c.args.q c.of-theirs.result c.of-theirs.ensures some now.marks).1 in
    let by = λ (P : List ℕ → Type 0). none_higher P (own_of chains c.args.p) (own_of chains c.args.q) in
    record {
      sought = rw (c.max.ensures, c.min.ensures)
          (by (IsToAsk extracts tables verdicts opens) c.args.from.0 c.of-theirs.result.sought c.common-common.result
          c.common-common.ensures c.requires.sought theirs.sought);
      passed = rw (c.max-2.ensures, c.min-2.ensures)
          (by (IsToGet extracts tables verdicts opens) c.args.from.1 c.of-theirs.result.passed c.common-common.result
          c.common-common.ensures c.requires.passed theirs.passed);
    }
