-- A mark that falls to below blocks stands right below one of them.
use Rattle.std.proofs.Common.{◌≡◌, inl, inr, ℕ, ◌+◌, ◌-◌, ◌<◌, ◌≤◌, List, [], ◌∷◌, length, get_or, take, Option, Some, None, refl, sym, ◌∙◌, ap, subst, arith, slice_set, unwrap_or}
use Rattle.std.proofs.lemmas.Bool.{cases_lt}
use Rattle.std.proofs.lemmas.Grind.{common_steps}
use Rattle.cf_bytes.specs.declared.hash.Hash32.{Hash32}
use Rattle.cf_dispute.specs.Tables.{blocks_of}
use Rattle.cf_headers.specs.Chain.{Hash, Chain, IsIn}
use Rattle.cf_headers.specs.Heights.{hash_at, height_of}
use Rattle.cf_seek.specs.Cursors.{passed_under}
use Rattle.cf_seek.specs.Tried.{IsOn, IsTriedBelow, tried_at, tried_under}
use Rattle.cf_seek.proofs.Falling.{lower_of}
use Rattle.cf_seek.proofs.Sought.{placed_low, placed_none}
use Rattle.cf_tables.proofs.Blocks.{in_more, in_last, in_longer}

-- ---- below one block

passed_low : (o : Option ℕ) (mark : ℕ) → passed_under o mark ≤ mark
passed_low None mark = omega arith
passed_low (Some height) mark = omega arith

-- a mark at height 0 stays there
pub under_none : (chain : Option Chain) (block : Hash) (mark before : ℕ) → mark ≡ before → mark ≡ 0
    → before ≡ tried_under chain block before
under_none None block mark before is none = refl
under_none (Some own) block mark before is none =
    let low = passed_low (height_of block own) before in
    omega (arith, low, is, none)

-- a mark above it is an entered peer's
under_some : (chain : Option Chain) (block : Hash) (mark after : ℕ) → IsOn chain mark → (mark ≡ 0 → ⊥)
    → after ≡ passed_under (height_of block (unwrap_or chain [])) mark → after ≡ tried_under chain block mark
under_some None block mark after on off is = elim (cases_lt 0 mark) [
  | inl lt ↦ (let no = (on lt).1.0 in cc no)
  | inr ge ↦ absurd (off (omega (arith, ge)))
]
under_some (Some own) block mark after on off is = is

-- up to where a mark stands then the block doesn't
apart_under : (own : Chain) (block : Hash) (o : Option ℕ) (mark h : ℕ) → height_of block own ≡ o
    → mark ≤ length own → 1 ≤ h → h ≤ passed_under o mark → hash_at own h ≡ block → ⊥
apart_under own block None mark h found within up low at =
    placed_none own block h (omega (arith, low, within)) at (sym found)
apart_under own block (Some height) mark h found within up low at =
    let least = placed_low own block h height (omega (arith, low, within)) at (sym found) in
    omega (arith, least, low, up)

fell_to : (own : Chain) (block : Hash) (o : Option ℕ) (mark : ℕ) → height_of block own ≡ o → passed_under o mark < mark
    → (height : ℕ) × ((height_of block own ≡ Some height) × (passed_under o mark ≡ height - 1))
fell_to own block None mark found lt = absurd (omega (arith, lt))
fell_to own block (Some height) mark found lt = elim (lower_of mark (height - 1)) [
  | inl same ↦ absurd (omega (arith, same, lt))
  | inr under ↦ (height, (found, under))
]

-- it fell to below this block, of which something holds
pub fell_below : (chain : Option Chain) (holds : Hash → Type 0) (block : Hash) (before : ℕ) → IsOn chain before
    → holds block → IsTriedBelow chain holds (block ∷ []) before (tried_under chain block before)
fell_below None holds block before on is = record {
  low = omega arith;
  apart = λ own some. cc some;
  tight = λ own some. cc some;
}
fell_below (Some there) holds block before on is =
    let within : before ≤ length there = (elim (cases_lt 0 before) [
      | inl lt ↦ (
          let w = on lt in
          let one : there ≡ w.0 = (let e = w.1.0 in cc) in
          let n = ap (λ (c : Chain). length c) one in
          omega (arith, n, w.1.1)
          )
      | inr none ↦ omega (arith, none)
    ]) in
    record {
      low = passed_low (height_of block there) before;
      apart = λ own some h up low among holding.
          let one : own ≡ there = cc in
          elim among [
            | inl at ↦ apart_under there block (height_of block there) before h refl within up low
                (ap (λ (c : Chain). hash_at c h) (sym one) ∙ at)
            | inr none ↦ none
          ];
      tight = λ own some lt.
          let one : there ≡ own = cc in
          let w = fell_to there block (height_of block there) before refl lt in
          (block, w.0, inl refl, is, ap (λ (c : Chain). height_of block c) (sym one) ∙ w.1.0, w.1.1);
    }

-- the mark of each peer did
pub falls_below : (chains : ℕ → Option Chain) (holds : Hash → Type 0) (block : Hash) (before after : List ℕ)
    → ((q : ℕ) → IsOn (chains q) (tried_at before q))
    → ((q : ℕ) → tried_at after q ≡ tried_under (chains q) block (tried_at before q)) → holds block
    → (q : ℕ) → IsTriedBelow (chains q) holds (block ∷ []) (tried_at before q) (tried_at after q)
falls_below chains holds block before after on is holding q =
    subst (λ (n : ℕ). IsTriedBelow (chains q) holds (block ∷ []) (tried_at before q) n) (sym (is q))
    (fell_below (chains q) holds block (tried_at before q) (on q) holding)

-- of no such block a mark needn't fall
pub stays_below : (chain : Option Chain) (holds : Hash → Type 0) (block : Hash) (mark : ℕ) → (holds block → ⊥)
    → IsTriedBelow chain holds (block ∷ []) mark mark
stays_below chain holds block mark off = record {
  low = omega arith;
  apart = λ own some h up low among holding. elim among [ inl at ↦ off (subst holds at holding) | inr none ↦ none ];
  tight = λ own some lt. absurd (omega (arith, lt));
}

-- ---- below each of more blocks

-- a mark at height 0 can't fall
pub unset_below : (chain : Option Chain) (holds : Hash → Type 0) (blocks : List Hash) (mark : ℕ) → mark ≡ 0
    → IsTriedBelow chain holds blocks mark mark
unset_below chain holds blocks mark unset = record {
  low = omega arith;
  apart = λ own some h up low among holding. absurd (omega (arith, up, low, unset));
  tight = λ own some lt. absurd (omega (arith, lt));
}

-- the next block is none of those
pub past_below : (chain : Option Chain) (holds : Hash → Type 0) (xs : List Hash32) (i : ℕ) (d : Hash32)
    (before mark : ℕ) → i < length xs
    → (holds (get_or xs i d).0 → ⊥) → IsTriedBelow chain holds (blocks_of (take i xs)) before mark
    → IsTriedBelow chain holds (blocks_of (take (i + 1) xs)) before mark
past_below chain holds xs i d before mark lt off fell = record {
  low = fell.low;
  apart = λ own some h up low among holding. elim (in_more xs i d (hash_at own h) lt among) [
    | inl old ↦ fell.apart own some h up low old holding
    | inr this ↦ off (subst holds this holding)
  ];
  tight = λ own some down. (let w = fell.tight own some down in (w.0, w.1, in_longer xs i w.0 w.2, w.3, w.4, w.5));
}

-- a mark that fell to below the next block as well
pub then_below : (chain : Option Chain) (holds these : Hash → Type 0) (xs : List Hash32) (i : ℕ) (d : Hash32)
    (before mid after : ℕ) → i < length xs
    → (holds (get_or xs i d).0 → these (get_or xs i d).0) → (these (get_or xs i d).0 → holds (get_or xs i d).0)
    → IsTriedBelow chain holds (blocks_of (take i xs)) before mid
    → IsTriedBelow chain these ((get_or xs i d).0 ∷ []) mid after
    → IsTriedBelow chain holds (blocks_of (take (i + 1) xs)) before after
then_below chain holds these xs i d before mid after lt to from first next =
    let low1 = first.low in
    let low2 = next.low in
    record {
      low = omega (arith, low1, low2);
      apart = λ own some h up low among holding. elim (in_more xs i d (hash_at own h) lt among) [
        | inl old ↦ first.apart own some h up (omega (arith, low, low2)) old holding
        | inr this ↦ next.apart own some h up low (inl this) (subst these (sym this) (to (subst holds this holding)))
      ];
      tight = λ own some down. elim (cases_lt after mid) [
        | inl lower ↦ (let w = next.tight own some lower in elim w.2 [
          | inl this ↦ (
            w.0,
            w.1,
            subst (λ (b : Hash). IsIn b (blocks_of (take (i + 1) xs))) (sym this) (in_last xs i d lt),
            subst holds (sym this) (from (subst these this w.3)),
            w.4,
            w.5,
          )
          | inr none ↦ absurd none
        ])
        | inr same ↦ (
            let at : after ≡ mid = omega (arith, same, low2) in
            let w = first.tight own some (omega (arith, at, down)) in
            (w.0, w.1, in_longer xs i w.0 w.2, w.3, w.4, at ∙ w.5)
            )
      ];
    }

-- ---- marks that are put

put_there : (marks now : List ℕ) (p mark to : ℕ) → now ≡ slice_set marks p to → mark ≡ tried_at marks p → (mark ≡ 0 → ⊥)
    → tried_at now p ≡ to
put_there marks now p mark to is there off = grind (arith, common_steps)

-- a mark that is put where one stands, no higher than below a block
pub put_under : (chain : Option Chain) (marks now : List ℕ) (p : ℕ) (block : Hash) (mark to : ℕ)
    → IsOn chain (tried_at marks p) → now ≡ slice_set marks p to → mark ≡ tried_at marks p → (mark ≡ 0 → ⊥)
    → to ≡ passed_under (height_of block (unwrap_or chain [])) mark
    → tried_at now p ≡ tried_under chain block (tried_at marks p)
put_under chain marks now p block mark to on is there off under =
    put_there marks now p mark to is there off
    ∙ subst (λ (m : ℕ). to ≡ tried_under chain block m) there
    (under_some chain block mark to (subst (IsOn chain) (sym there) on) off under)
