-- Places by peer, in a list.
use Rattle.std.proofs.Common.{◌≡◌, inl, inr, ℕ, ◌+◌, ◌<◌, ◌≤◌, List, length, get_or, set, Option, Some, None, refl, sym, ◌∙◌, ap, subst, arith}
use Rattle.std.specs.Prelude.{IsSome, if◌then◌else◌, MatchOption, OnErr, Result, Ok, Err}
use Rattle.std.proofs.lemmas.Grind.{common_steps}
use Rattle.std.proofs.lemmas.Bool.{cases_eq, cases_lt}
use Rattle.cf_bytes.specs.declared.peer.PeerNo.{PeerNo}
use Rattle.cf_lists.specs.declared.slot.Slot.{Slot}
use Rattle.cf_headers.specs.Chain.{Chain}
use Rattle.cf_headers.specs.Store.{Chains, Puts, Stays, rank, IsBest}
use Rattle.cf_lists.specs.Lists.{chains_in, held_by, nobody}

-- a place that keeps its chain
pub same_chain : (slots : List Slot) (p : ℕ) (s : Slot) → held_by s ≡ chains_in slots p → Stays (chains_in slots) (chains_in (set slots p s))
same_chain slots p s same q = elim (cases_eq q p) [ inl e ↦ elim (cases_lt p (length slots)) [ inl lt ↦ grind (arith, common_steps) | inr ge ↦ grind (arith, common_steps) ] | inr ne ↦ grind (arith, common_steps) ]

pub chains_out : (slots : List Slot) (q : ℕ) → length slots ≤ q → chains_in slots q ≡ None
chains_out slots q out = grind (arith, common_steps)

not_both : (o : Option (Chain)) → o ≡ None → IsSome o → ⊥
not_both None e some = cc some
not_both (Some x) e some = cc e

pub entered_within : (slots : List Slot) (p : ℕ) → IsSome (chains_in slots p) → p < length slots
entered_within slots p some = elim (cases_lt p (length slots)) [
  | inl lt ↦ lt
  | inr ge ↦ absurd (let e = chains_out slots p ge in not_both (chains_in slots p) e some)
]

-- a refused call leaves the place as it was
pub same_kept : (slots : List Slot) (p : ℕ) (s : Slot) (own : Chain) → s ≡ get_or slots p s → IsSome (chains_in slots p) → own ≡ s.chain
    → Stays (chains_in slots) (chains_in (set slots p (record { entered = s.entered; chain = own })))
same_kept slots p s own is some e =
    let lt = entered_within slots p some in
    let at : get_or slots p nobody ≡ s = grind (arith, common_steps, lt, is) in
    same_chain slots p (record { entered = s.entered; chain = own })
    (ap (λ (x : Chain). if s.entered then Some x else None) e ∙ ap held_by (sym at))
