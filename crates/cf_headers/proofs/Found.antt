-- Where a hash stands in a chain, and where it is found.
use Rattle.std.proofs.Common.{◌≡◌, inl, inr, ℕ, suc, ◌-◌, ◌≤◌, [], ◌∷◌, length, Option, Some, None, Bool, true, false, if◌then◌else◌, drop, refl, sym, ◌∙◌, ap, arith, length-append}
use Rattle.std.specs.Option.{option_or}
use Rattle.std.proofs.lemmas.Bool.{cases_lt}
use Rattle.std.proofs.lemmas.Slice.Eq.{bytes_eq-Decides}
use Rattle.cf_block.specs.declared.header.Header.{Header}
use Rattle.cf_block.specs.Header.{block_hash_of}
use Rattle.cf_headers.specs.Chain.{Hash, Chain, tip_hash, ending_in, back_to, lower}
use Rattle.cf_headers.specs.Heights.{hash_at}
use Rattle.cf_headers.specs.Rules.{same}
use Rattle.cf_headers.proofs.ChainLaws.{back_in}

ends_so : (hash : Hash) (chain base : Chain) (b : Bool) → same (tip_hash chain) hash ≡ b → (if b then Some chain else None) ≡ Some base → tip_hash base ≡ hash
unfolding same
ends_so hash chain base true is1 e = (let one : chain ≡ base = cc in ap tip_hash (sym one) ∙ (bytes_eq-Decides (tip_hash chain) hash).0 is1)
ends_so hash chain base false is1 e = cc

pub back_ends : (hash : Hash) (chain base : Chain) → back_to hash chain ≡ Some base → tip_hash base ≡ hash
back_ends hash [] base e = ends_so hash [] base (same (tip_hash []) hash) refl e
back_ends hash (h ∷ below) base e = back_one hash h below base (back_to hash below) e (λ f. back_ends hash below base f) where
  back_one : (hash : Hash) (h : Header) (below base : Chain) (o : Option Chain) → option_or o (ending_in hash (h ∷ below)) ≡ Some base
      → (o ≡ Some base → tip_hash base ≡ hash) → tip_hash base ≡ hash
  back_one hash h below base (Some part) e before = before e
  back_one hash h below base None e before = ends_so hash (h ∷ below) base (same (block_hash_of h) hash) refl e

-- a part of a chain below its tip
pub lower_on : (h : Header) (below : Chain) (e : ℕ) → e ≤ length below → lower e (h ∷ below) ≡ lower e below
lower_on h below e le = let n : length (h ∷ below) - e ≡ suc (length below - e) = omega (arith, le) in ap (λ k. drop k (h ∷ below)) n

lower_all : (chain : Chain) → lower (length chain) chain ≡ chain
lower_all chain = let n : length chain - length chain ≡ 0 = omega arith in ap (λ k. drop k chain) n

ends_here : (hash : Hash) (chain : Chain) → tip_hash chain ≡ hash → ending_in hash chain ≡ Some chain
unfolding same
ends_here hash chain e = ap (λ (b : Bool). if b then Some chain else None) ((bytes_eq-Decides (tip_hash chain) hash).1 e)

some_or : {A : Type 0} (o : Option A) (x : A) → (y : A) × (option_or o (Some x) ≡ Some y)
some_or None x = (x, refl)
some_or (Some y) x = (y, refl)

some_first : {A : Type 0} (o later : Option A) (x : A) → o ≡ Some x → option_or o later ≡ Some x
some_first None later x e = cc
some_first (Some y) later x e = e

-- where a hash stands at a height, it is found, no higher
pub found_low : (hash : Hash) (chain : Chain) (e : ℕ) → e ≤ length chain → hash_at chain e ≡ hash → (part : Chain) × (back_to hash chain ≡ Some part) × (length part ≤ e)
found_low hash [] e le at = let none : 0 - e ≡ 0 = omega arith in ([], ends_here hash [] (sym (ap (λ k. tip_hash (drop k [])) none) ∙ at), omega arith)
found_low hash (h ∷ below) e le at = elim (cases_lt (length below) e) [
  | inr low ↦ (
      let w = found_low hash below e low (ap tip_hash (sym (lower_on h below e low)) ∙ at) in
      (w.0, some_first (back_to hash below) (ending_in hash (h ∷ below)) w.0 w.1, w.2)
      )
  | inl high ↦ (
      let all : e ≡ length (h ∷ below) = omega (arith, le, high) in
      let tip : tip_hash (h ∷ below) ≡ hash = ap tip_hash (sym (lower_all (h ∷ below)) ∙ ap (λ k. lower k (h ∷ below)) (sym all)) ∙ at in
      let w = some_or (back_to hash below) (h ∷ below) in
      let found : back_to hash (h ∷ below) ≡ Some w.0 = ap (λ (o : Option Chain). option_or (back_to hash below) o) (ends_here hash (h ∷ below) tip) ∙ w.1 in
      let p = back_in hash (h ∷ below) w.0 found in
      let n = length-append p.0 w.0 in
      let m = ap (λ (c : Chain). length c) p.1 in
      (w.0, found, omega (arith, n, m, all))
      )
]
