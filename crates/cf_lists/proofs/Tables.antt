-- The table of common heights.
use Rattle.std.proofs.Common.{◌≡◌, ◌≢◌, inl, inr, ℕ, ◌+◌, ◌*◌, ◌<◌, ◌≤◌, List, [], length, get_or, set, replicate, refl, sym, ◌∙◌, ap, subst, arith}
use Rattle.std.specs.Prelude.{IsSome}
use Rattle.std.proofs.lemmas.Bool.{cases_eq}
use Rattle.std.proofs.lemmas.Grind.{common_steps}
use Rattle.std.proofs.lemmas.List.{get_or-set_same, get_or-set_other, get_or-replicate}
use Rattle.cf_lists.specs.declared.slot.Slot.{Slot}
use Rattle.cf_headers.specs.Chain.{Chain}
use Rattle.cf_headers.specs.Heights.{common_of}
use Rattle.cf_lists.specs.Lists.{nobody, chains_in, chain_at, common_in, AreCommons, AreCommonsBut, IsCommonUpTo, IsRowUpTo}
use Rattle.cf_lists.proofs.Slots.{entered_within}
use Rattle.cf_headers.proofs.Accepting.{StaysTo}
use Rattle.cf_headers.proofs.Commons.{common_symm, common_own, common_kept}

-- the table while a row and a column are written anew
pub record Renewed (slots : List Slot) (commons : List ℕ) (p k i : ℕ) : Type 0 where
  pub all : length commons ≡ 81
  pub others : AreCommonsBut p slots commons
  pub row : (q : ℕ) → q < i → common_in commons p q ≡ common_of (chain_at slots p) (chain_at slots q)
  pub column : (q : ℕ) → q < i → common_in commons q p ≡ common_of (chain_at slots p) (chain_at slots q)
  pub left : (q : ℕ) → i ≤ q → q < 9 → IsCommonUpTo k (common_in commons p q) (chain_at slots p) (chain_at slots q)

pub renew_end : (slots : List Slot) (commons : List ℕ) (p k i : ℕ) → Renewed slots commons p k i → 9 ≤ i → AreCommons slots commons
renew_end slots commons p k i r past a b la lb = elim (cases_eq a p) [
  | inl e ↦ subst (λ (n : ℕ). common_in commons n b ≡ common_of (chain_at slots n) (chain_at slots b)) (sym e) (r.row b (omega (arith, lb, past)))
  | inr na ↦ elim (cases_eq b p) [
    | inl e ↦
        subst (λ (n : ℕ). common_in commons a n ≡ common_of (chain_at slots a) (chain_at slots n)) (sym e)
        (r.column a (omega (arith, la, past)) ∙ common_symm (chain_at slots p) (chain_at slots a))
    | inr nb ↦ r.others a b la lb na nb
  ]
]

-- a place's chain that is set
pub chain_set : (slots : List Slot) (p : ℕ) (s : Slot) → p < length slots → chain_at (set slots p s) p ≡ s.chain
chain_set slots p s lt = ap (λ (x : Slot). x.chain) (get_or-set_same slots p s nobody lt)

pub chain_unset : (slots : List Slot) (p q : ℕ) (s : Slot) → q ≢ p → chain_at (set slots p s) q ≡ chain_at slots q
chain_unset slots p q s ne = ap (λ (x : Slot). x.chain) (get_or-set_other slots p q s nobody ne)

pub set_row_to : (slots : List Slot) (commons : List ℕ) (p k : ℕ) (s : Slot) → p < length slots → p < 9 → AreCommons slots commons → StaysTo k (chain_at slots p) s.chain
    → IsRowUpTo k p (set slots p s) commons
set_row_to slots commons p k s lt low told st q few = elim (cases_eq q p) [
  | inl e ↦
      let before : common_in commons p q ≡ length (chain_at slots p) = ap (λ (n : ℕ). common_in commons p n) e ∙ told p p low low ∙ common_own (chain_at slots p) in
      let here : chain_at (set slots p s) q ≡ s.chain = ap (λ (n : ℕ). chain_at (set slots p s) n) e ∙ chain_set slots p s lt in
      let after : common_of (chain_at (set slots p s) p) (chain_at (set slots p s) q) ≡ length s.chain = rw (here, chain_set slots p s lt) (common_own s.chain) in
      (λ up. absurd (omega (arith, up, before, st.low)), λ up. omega (arith, after, st.low_too))
  | inr ne ↦
      let before : common_of (chain_at slots p) (chain_at slots q) ≡ common_in commons p q = sym (told p q low few) in
      let w = common_kept k (chain_at slots p) s.chain (chain_at slots q) st.same st.low st.low_too in
      let after : common_of (chain_at (set slots p s) p) (chain_at (set slots p s) q) ≡ common_of s.chain (chain_at slots q) = rw (chain_set slots p s lt, chain_unset slots p q s ne) refl in (
        λ up. (let e = w.0 (omega (arith, up, before)) in omega (arith, e, after, before)),
        λ up. (let e = w.1 (omega (arith, up, before)) in omega (arith, e, after)),
      )
]

pub set_row_here : (slots : List Slot) (commons : List ℕ) (p k : ℕ) (s t : Slot) → s ≡ get_or slots p s → IsSome (chains_in slots p) → length slots ≡ 9 → AreCommons slots commons
    → StaysTo k s.chain t.chain → IsRowUpTo k p (set slots p t) commons
set_row_here slots commons p k s t is some nine told st =
    let lt = entered_within slots p some in
    let at : get_or slots p nobody ≡ s = grind (arith, common_steps, lt, is) in
    set_row_to slots commons p k t lt (omega (arith, lt, nine)) told (subst (λ (x : Slot). StaysTo k x.chain t.chain) (sym at) st)

-- a table for places that have genesis alone
pub fresh_told : (slots : List Slot) (commons : List ℕ) → commons ≡ replicate 81 0 → ((q : ℕ) → chain_at slots q ≡ []) → AreCommons slots commons
fresh_told slots commons made empty p q lp lq =
    ap (λ (xs : List ℕ). get_or xs (9 * p + q) 0) made ∙ get_or-replicate 81 (9 * p + q) 0 0 (omega (arith, lp, lq))
    ∙ sym (ap (λ (x : Chain). common_of x (chain_at slots q)) (empty p))
