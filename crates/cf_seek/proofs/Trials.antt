-- The lowest block of a chain that is to be tested.
use Rattle.std.proofs.Common.{◌≡◌, inl, inr, ℕ, zero, suc, ◌+◌, ◌-◌, ◌<◌, ◌≤◌, [], ◌∷◌, ◌++◌, length, drop, Option, Some, None, refl, sym, ◌∙◌, ap, subst, arith, length-append}
use Rattle.std.specs.Prelude.{option_map}
use Rattle.std.proofs.Math.Seq.{drop-append_seam}
use Rattle.std.proofs.lemmas.Bool.{cases_lt}
use Rattle.cf_block.specs.Header.{block_hash_of, genesis_header}
use Rattle.cf_bytes.specs.declared.hash.Hash32.{Hash32}
use Rattle.cf_dispute.specs.Claims.{Tables}
use Rattle.cf_headers.specs.Chain.{Hash, Chain, back_to, lower, tip_hash, IsAbove}
use Rattle.cf_headers.specs.Heights.{hash_at, height_of}
use Rattle.cf_headers.proofs.ChainLaws.{back_in}
use Rattle.cf_seek.specs.Testing.{IsTrial, IsNextTrial}
use Rattle.cf_seek.specs.Tried.{AreTried, IsToTry}
use Rattle.cf_seek.proofs.Sought.{placed_low}
use Rattle.cf_seek.proofs.Stops.{length_found}
use Rattle.cf_headers.proofs.Found.{back_ends, found_low}
use Rattle.cf_tables.specs.Known.{ExtractTable, TestResults}

-- ---- blocks by heights

-- the lowest part of a chain that ends with a hash is its part up to that part's height
part_at : (hash : Hash) (own part : Chain) → back_to hash own ≡ Some part → hash_at own (length part) ≡ hash
part_at hash own part found =
    let p = back_in hash own part found in
    let n = length-append p.0 part in
    let m = ap (λ (c : Chain). length c) p.1 in
    let long : length own - length part ≡ length p.0 = omega (arith, n, m) in
    let is : part ≡ lower (length part) own =
    sym (drop-append_seam p.0 part) ∙ ap (λ k. drop k (p.0 ++ part)) (sym long)
    ∙ ap (λ (c : Chain). drop (length own - length part) c) p.1 in
    ap tip_hash (sym is) ∙ back_ends hash own part found

pub stands_at : (hash : Hash) (own : Chain) (h : ℕ) → height_of hash own ≡ Some h → hash_at own h ≡ hash
stands_at hash own h found =
    let w = length_found (back_to hash own) h found in
    ap (λ (n : ℕ). hash_at own n) (sym w.2) ∙ part_at hash own w.0 w.1

first_at : (own : Chain) → hash_at own 0 ≡ block_hash_of genesis_header
first_at own = by own (length own - 0) (omega arith) where
  by : (own : Chain) (n : ℕ) → n ≡ length own → tip_hash (drop n own) ≡ block_hash_of genesis_header
  by own zero is = none own (sym is) where
    none : (own : Chain) → length own ≡ 0 → tip_hash own ≡ block_hash_of genesis_header
    none [] e = refl
    none (h ∷ below) e = absurd (omega (arith, e))
  by [] (suc n) is = refl
  by (h ∷ below) (suc n) is = by below n (omega (arith, is))

-- a block that stands above genesis, by the lowest height of its hash, hasn't genesis's hash
pub stands_above : (hash : Hash) (own : Chain) (h : ℕ) → height_of hash own ≡ Some h → 1 ≤ h → IsAbove hash
stands_above hash own h found up is =
    let low : h ≤ 0 = placed_low own hash 0 h (omega arith) (first_at own ∙ sym is) (sym found) in
    omega (arith, low, up)

-- ---- the climb

-- up to where none is to be tested there is no trial
pub no_trial : (extracts : ExtractTable) (tables : Tables) (told : TestResults) (p : ℕ) (own : Chain) (common most : ℕ)
    → AreTried extracts tables told p own most
    → (block : Hash) (h : ℕ) → IsTrial extracts tables told p own common block h → h ≤ most → ⊥
no_trial extracts tables told p own common most are block h t low =
    are h t.above low (subst (λ (x : Hash). IsToTry extracts tables told p x) (sym (stands_at block own h t.stands))
    (record { above = stands_above block own h t.stands t.above; wanted = t.wanted }))

pub next_none : (extracts : ExtractTable) (tables : Tables) (told : TestResults) (p : ℕ) (own : Chain) (common most : ℕ)
    → AreTried extracts tables told p own most
    → common ≤ most → IsNextTrial extracts tables told p own common None
next_none extracts tables told p own common most are up block h t =
    no_trial extracts tables told p own common most are block h t (let low = t.low in omega (arith, low, up))

-- the first block that is to be tested stands at no lower height
first_stands : (extracts : ExtractTable) (tables : Tables) (told : TestResults) (p : ℕ) (own : Chain) (h : ℕ) (block : Hash)
    → AreTried extracts tables told p own h → h + 1 ≤ length own → block ≡ hash_at own (h + 1)
    → IsToTry extracts tables told p block → height_of block own ≡ Some (h + 1)
first_stands extracts tables told p own h block are within is to =
    let w = found_low block own (h + 1) within (sym is) in
    let at : hash_at own (length w.0) ≡ block = part_at block own w.0 w.1 in
    let here : h + 1 ≤ length w.0 = elim (cases_lt (length w.0) (h + 1)) [
      | inl lt ↦ absurd (elim (cases_lt 0 (length w.0)) [
        | inl up ↦ are (length w.0) (omega (arith, up)) (omega (arith, lt))
            (subst (λ (x : Hash). IsToTry extracts tables told p x) (sym at) to)
        | inr none ↦ (
            let zero_is : 0 ≡ length w.0 = omega (arith, none) in
            to.above (sym at ∙ ap (λ (n : ℕ). hash_at own n) (sym zero_is) ∙ first_at own)
            )
      ])
      | inr ge ↦ ge
    ] in
    let top : length w.0 ≡ h + 1 = omega (arith, here, w.2) in
    ap (λ (o : Option Chain). option_map (λ (c : Chain). length c) o) w.1 ∙ ap (λ (n : ℕ). Some n) top

pub next_some : (extracts : ExtractTable) (tables : Tables) (told : TestResults) (p : ℕ) (own : Chain) (common h : ℕ) (block : Hash32)
    → AreTried extracts tables told p own h → h < common → common ≤ length own → block.0 ≡ hash_at own (h + 1)
    → IsToTry extracts tables told p block.0
    → IsNextTrial extracts tables told p own common (Some (record { height = h + 1; block = block }))
next_some extracts tables told p own common h block are low within is to = (
  record {
    stands = first_stands extracts tables told p own h block.0 are (omega (arith, low, within)) is to;
    above = omega arith;
    low = omega (arith, low);
    wanted = to.wanted;
  },
  λ other k t. elim (cases_lt k (h + 1)) [
    | inl lt ↦ absurd (no_trial extracts tables told p own common h are other k t (omega (arith, lt)))
    | inr ge ↦ ge
  ],
)
