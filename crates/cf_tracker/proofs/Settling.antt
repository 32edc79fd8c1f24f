-- Blocks of a chain that are settled.
use Rattle.std.proofs.Common.{◌≡◌, ◌≢◌, inl, inr, ℕ, ◌+◌, ◌<◌, ◌≤◌, List, length, refl, ◌∙◌, sym, subst, arith}
use Rattle.std.proofs.lemmas.Bool.{cases_lt}
use Rattle.cf_dispute.specs.Claims.{Tables}
use Rattle.cf_headers.specs.Chain.{Hash, Chain}
use Rattle.cf_headers.specs.Heights.{hash_at}
use Rattle.cf_match.specs.Verdicts.{Verdicts}
use Rattle.cf_tracker.specs.declared.account.Written.{Written}
use Rattle.cf_tables.specs.declared.kind.BlockKind.{BlockKind}
use Rattle.cf_tables.specs.declared.kind.BlockKind.TheVariants.{Unclaimed, Unjudged, ToFetch, Done}
use Rattle.cf_tables.specs.Known.{ExtractTable}
use Rattle.cf_tables.specs.Wanting.{IsDone, IsKind, IsKindAbove}
use Rattle.cf_tracker.specs.Writing.{AreDone, IsDoneAbove, WritesOver, WritesPart}
use Rattle.cf_tracker.specs.Written.{IsWrittenTo, IsWrittenTop, IsWrittenWhole}
use Rattle.cf_seek.proofs.Sought.{not_to_fetch}
use Rattle.cf_tables.proofs.Told.{not_unjudged, there_or_none}

-- a block of another kind isn't settled
not_done : (extracts : ExtractTable) (tables : Tables) (verdicts : Verdicts) (block : Hash) (k : BlockKind)
    → IsKind extracts tables verdicts block k → k ≢ Done → IsDone extracts tables verdicts block → ⊥
not_done extracts tables verdicts block Unclaimed is off (inl there) = there_or_none extracts block is.0 there
not_done extracts tables verdicts block Unclaimed is off (inr done) = (let no = sym (is.1 done.1.0.0) ∙ done.1.0.1.1 in cc no)
not_done extracts tables verdicts block Unjudged is off done = not_unjudged extracts tables verdicts block Done done (λ e. cc e) is
not_done extracts tables verdicts block ToFetch is off done = not_to_fetch extracts tables verdicts block Done done (λ e. cc e) is
not_done extracts tables verdicts block Done is off done = off refl

pub settled_by : (extracts : ExtractTable) (tables : Tables) (verdicts : Verdicts) (block : Hash) (k : BlockKind)
    → IsKindAbove extracts tables verdicts block k → k ≡ Done → IsDoneAbove extracts tables verdicts block
settled_by extracts tables verdicts block k kind is above = subst (IsKind extracts tables verdicts block) is (kind.0 above)

pub unsettled_by : (extracts : ExtractTable) (tables : Tables) (verdicts : Verdicts) (block : Hash) (k : BlockKind)
    → IsKindAbove extracts tables verdicts block k → k ≢ Done → IsDoneAbove extracts tables verdicts block → ⊥
unsettled_by extracts tables verdicts block k kind off done = not_done extracts tables verdicts block k (kind.0 (kind.1 off)) off (done (kind.1 off))

-- ---- along a chain

pub done_none : (extracts : ExtractTable) (tables : Tables) (verdicts : Verdicts) (own : Chain) (from : ℕ)
    → AreDone extracts tables verdicts own from from
done_none extracts tables verdicts own from h up low = absurd (omega (arith, up, low))

pub done_next : (extracts : ExtractTable) (tables : Tables) (verdicts : Verdicts) (own : Chain) (from height : ℕ) (hash : Hash) → AreDone extracts tables verdicts own from height → hash ≡ hash_at own (height + 1)
    → IsDoneAbove extracts tables verdicts hash → AreDone extracts tables verdicts own from (height + 1)
done_next extracts tables verdicts own from height hash are is here h up low = elim (cases_lt h (height + 1)) [
  | inl lt ↦ are h up (omega (arith, lt))
  | inr ge ↦ (
      let at : h ≡ height + 1 = omega (arith, ge, low) in
      subst (λ (k : ℕ). IsDoneAbove extracts tables verdicts (hash_at own k)) (sym at) (subst (IsDoneAbove extracts tables verdicts) is here)
      )
]

pub done_low : (extracts : ExtractTable) (tables : Tables) (verdicts : Verdicts) (own : Chain) (from most height : ℕ)
    → most ≤ height → AreDone extracts tables verdicts own from height → AreDone extracts tables verdicts own from most
done_low extracts tables verdicts own from most height le are h up low = are h up (omega (arith, low, le))

pub done_both : (extracts : ExtractTable) (tables : Tables) (verdicts : Verdicts) (own : Chain) (from middle most low high : ℕ) → middle ≤ low → most ≤ high → AreDone extracts tables verdicts own from low
    → AreDone extracts tables verdicts own middle high → AreDone extracts tables verdicts own from most
done_both extracts tables verdicts own from middle most low high past1 past2 first second h up le = elim (cases_lt middle h) [
  | inl lt ↦ second h lt (omega (arith, le, past2))
  | inr ge ↦ first h up (omega (arith, ge, past1))
]

pub undone_at : (extracts : ExtractTable) (tables : Tables) (verdicts : Verdicts) (own : Chain) (from most height : ℕ)
    → from ≤ height → height < most
    → (IsDoneAbove extracts tables verdicts (hash_at own (height + 1)) → ⊥)
    → AreDone extracts tables verdicts own from most → ⊥
undone_at extracts tables verdicts own from most height low lt never are = never (are (height + 1) (omega (arith, low)) (omega (arith, lt)))

-- ---- what is written

pub writes_not : (extracts : ExtractTable) (tables : Tables) (verdicts : Verdicts) (own : Chain) (written : List Written) (height most : ℕ) → most ≡ length own → IsWrittenTop extracts own written height
    → (AreDone extracts tables verdicts own height most → ⊥) → WritesOver extracts tables verdicts own written written
writes_not extracts tables verdicts own written height most end top never = record {
  stood = height;
  top = top;
  settled = λ are. absurd (never (subst (AreDone extracts tables verdicts own height) (sym end) are));
  left = λ off. refl;
}

pub writes_part : (extracts : ExtractTable) (tables : Tables) (verdicts : Verdicts) (own : Chain) (before after : List Written) (height most : ℕ) → most ≡ length own → IsWrittenTop extracts own before height
    → AreDone extracts tables verdicts own height most → IsWrittenTo extracts own after height
    → IsWrittenTo extracts own after (length after) → WritesPart extracts tables verdicts own before after
writes_part extracts tables verdicts own before after height most end top are to part = record {
  stood = height;
  top = top;
  settled = subst (AreDone extracts tables verdicts own height) end are;
  least = to.long;
  part = part;
}

pub writes_all : (extracts : ExtractTable) (tables : Tables) (verdicts : Verdicts) (own : Chain) (before after : List Written) (height most : ℕ) → most ≡ length own → IsWrittenTop extracts own before height
    → AreDone extracts tables verdicts own height most → IsWrittenWhole extracts own after
    → WritesOver extracts tables verdicts own before after
writes_all extracts tables verdicts own before after height most end top are whole = record {
  stood = height;
  top = top;
  settled = λ all. whole;
  left = λ off. absurd (off (subst (AreDone extracts tables verdicts own height) end are));
}
