-- A range may be asked for up to the lowest height at which its last hash stands, whatever hashes there are.
use Rattle.std.proofs.Common.{◌≡◌, inl, inr, ℕ, suc, ◌-◌, ◌<◌, ◌≤◌, List, [], ◌∷◌, ◌++◌, length, Option, Some, None, reverse, take, drop, map, get_or, ◌+◌, zero, subst, refl, sym, ◌∙◌, ap, arith, length-append}
use Rattle.std.specs.Prelude.{option_map, unwrap_or, pred, IsSome}
use Rattle.std.proofs.lemmas.Bool.{cases_lt}
use Rattle.std.proofs.Math.Seq.{drop-append_seam}
use Rattle.cf_dispute.specs.Claims.{Tables}
use Rattle.cf_match.specs.Verdicts.{Verdicts}
use Rattle.cf_seek.specs.declared.spans.Span.{Span}
use Rattle.cf_seek.specs.declared.spans.Wish.TheVariants.{Claims, Filters}
use Rattle.cf_seek.specs.declared.want.Want.TheVariants.{Claims as ClaimsFrom, Filters as FiltersFrom}
use Rattle.cf_seek.specs.Ends.{AreUnclaimed, IsLastUnclaimed}
use Rattle.cf_seek.specs.Spans.{IsSpan, IsWish, GoesFar}
use Rattle.cf_tables.specs.Known.{ExtractTable}
use Rattle.cf_seek.specs.Opens.{Opens}
use Rattle.cf_seek.specs.Seeking.{AreSought, AreToAsk, IsLastToAsk, IsSought, IsToAsk}
use Rattle.cf_tables.specs.Wanting.{AreClaimed}
use Rattle.cf_headers.specs.Chain.{IsAbove, Hash, Chain, tip_hash, back_to, lower, above}
use Rattle.cf_tables.proofs.Told.{first_is}
use Rattle.std.proofs.lemmas.List.{take-append-drop, reverse-append, reverse-reverse, length-reverse, length-drop, map-append}
use Rattle.std.proofs.lemmas.Grind.{common_steps, take_at_read}
use Rattle.cf_block.specs.declared.header.Header.{Header}
use Rattle.cf_block.specs.Header.{block_hash_of}
use Rattle.cf_bytes.specs.declared.hash.Hash32.{Hash32}
use Rattle.cf_headers.proofs.Stacks.{lower_reverse}
use Rattle.cf_headers.proofs.Found.{back_ends, found_low}
use Rattle.cf_seek.proofs.Along.{hash_of_next}
use Rattle.cf_headers.specs.Heights.{hash_at, height_of}
use Rattle.cf_headers.proofs.ChainLaws.{back_in}

-- the range that ends at the lowest height with the last block's hash: it begins where it was to begin, where no lower block has that hash
pub record StopsAt (own : Chain) (start e height : ℕ) : Type 0 where
  pub part : Chain
  pub tip : back_to (hash_at own e) own ≡ Some part
  pub is : part ≡ lower height own
  pub count : length part ≡ height
  pub low : start ≤ height
  pub high : height ≤ e

pub length_found : (o : Option Chain) (n : ℕ) → option_map (λ (c : Chain). length c) o ≡ Some n → (c : Chain) × (o ≡ Some c) × (length c ≡ n)
length_found None n e = cc
length_found (Some c) n e = (c, refl, (let one : length c ≡ n = cc in one))

pub stops_at : (own : Chain) (start e height : ℕ) → e ≤ length own → height_of (hash_at own e) own ≡ Some height → ((h : ℕ) → h < start → hash_at own h ≡ hash_at own e → ⊥) → StopsAt own start e height
stops_at own start e height le found none =
    let hash : Hash = hash_at own e in
    let w = length_found (back_to hash own) height found in
    let f = found_low hash own e le refl in
    let same_part : f.0 ≡ w.0 = (let both : Some f.0 ≡ Some w.0 = sym f.1 ∙ w.1 in let one : f.0 ≡ w.0 = cc in one) in
    let p = back_in hash own w.0 w.1 in
    let n = length-append p.0 w.0 in
    let m = ap (λ (c : Chain). length c) p.1 in
    let long : length own - height ≡ length p.0 = omega (arith, n, m, w.2) in
    let is : w.0 ≡ lower height own = sym (drop-append_seam p.0 w.0) ∙ ap (λ k. drop k (p.0 ++ w.0)) (sym long) ∙ ap (λ (c : Chain). drop (length own - height) c) p.1 in
    record {
      part = w.0;
      tip = w.1;
      is = is;
      count = w.2;
      low = elim (cases_lt height start) [
        | inl lt ↦ absurd (none height lt (ap tip_hash (sym is) ∙ back_ends hash own w.0 w.1))
        | inr ge ↦ ge
      ];
      high = (let k = ap (λ (c : Chain). length c) same_part in omega (arith, k, f.2, w.2));
    }

-- ---- the blocks of a range

take_first : {A : Type 0} (xs ys : List A) → take (length xs) (xs ++ ys) ≡ xs
take_first [] ys = refl
take_first (x ∷ xs) ys = ap (λ zs. x ∷ zs) (take_first xs ys)

above_reverse : {A : Type 0} (k : ℕ) (ys : List A) → above k (reverse ys) ≡ drop k ys
above_reverse {A} k ys =
    let parts : reverse ys ≡ reverse (drop k ys) ++ reverse (take k ys) = ap reverse (sym (take-append-drop k ys)) ∙ reverse-append (take k ys) (drop k ys) in
    let n : length (reverse ys) - k ≡ length (reverse (drop k ys)) = ap (λ (n : ℕ). n - k) (length-reverse ys) ∙ sym (length-drop k ys) ∙ sym (length-reverse (drop k ys)) in
    ap (λ (m : ℕ). reverse (take m (reverse ys))) n
    ∙ ap (λ (zs : List A). reverse (take (length (reverse (drop k ys))) zs)) parts
    ∙ ap reverse (take_first (reverse (drop k ys)) (reverse (take k ys)))
    ∙ reverse-reverse (drop k ys)

pub above_part : (own : Chain) (top k : ℕ) → above k (lower top own) ≡ drop k (take top (reverse own))
above_part own top k =
    ap (λ (c : Chain). above k c) (ap (lower top) (sym (reverse-reverse own)) ∙ lower_reverse top (reverse own))
    ∙ above_reverse k (take top (reverse own))

drop_taken : {A : Type 0} (k : ℕ) (xs : List A) → drop k (take k xs) ≡ []
drop_taken zero xs = refl
drop_taken (suc k) [] = refl
drop_taken (suc k) (x ∷ xs) = drop_taken k xs

pub none_yet : (own : Chain) (k i : ℕ) → i ≡ k → map block_hash_of (drop k (take i (reverse own))) ≡ []
none_yet own k i e = ap (λ (n : ℕ). map block_hash_of (drop k (take n (reverse own)))) e ∙ ap (map block_hash_of) (drop_taken k (reverse own))

one_further : (own : Chain) (k i : ℕ) (hash : Hash32) (blocks : List Hash32) (d : Header) → k ≤ i → i < length own → hash.0 ≡ hash_at own (i + 1)
    → map (λ (h : Hash32). h.0) blocks ≡ map block_hash_of (drop k (take i (reverse own)))
    → map (λ (h : Hash32). h.0) (blocks ++ hash ∷ []) ≡ map block_hash_of (drop k (take (i + 1) (reverse own)))
one_further own k i hash blocks d low lt is before =
    let rs = reverse own in
    let x : Header = get_or rs i d in
    let lt2 : i < length rs = omega (arith, lt, length-reverse own) in
    let up : drop k (take (i + 1) rs) ≡ drop k (take i rs) ++ x ∷ [] = ap (drop k) (take_at_read rs i d lt2).1 ∙ grind (arith, common_steps) in
    map-append (λ (h : Hash32). h.0) blocks (hash ∷ [])
    ∙ ap (λ (xs : List Hash). xs ++ hash.0 ∷ []) before
    ∙ ap (λ (y : Hash). map block_hash_of (drop k (take i rs)) ++ y ∷ []) (is ∙ hash_of_next own i d lt)
    ∙ sym (map-append block_hash_of (drop k (take i rs)) (x ∷ []))
    ∙ ap (map block_hash_of) (sym up)

pub pushed : (own : Chain) (k i : ℕ) (hash : Hash32) (blocks more : List Hash32) (d : Header) → more ≡ blocks ++ hash ∷ [] → k ≤ i → i < length own → hash.0 ≡ hash_at own (i + 1)
    → map (λ (h : Hash32). h.0) blocks ≡ map block_hash_of (drop k (take i (reverse own)))
    → map (λ (h : Hash32). h.0) more ≡ map block_hash_of (drop k (take (i + 1) (reverse own)))
pushed own k i hash blocks more d put low lt is before = ap (λ (xs : List Hash32). map (λ (h : Hash32). h.0) xs) put ∙ one_further own k i hash blocks d low lt is before

-- the place of the stop
pub top_is : (own : Chain) (start end top : ℕ) (hash : Hash) (place : Option ℕ) → end ≤ length own → hash ≡ hash_at own end → place ≡ height_of hash own → top ≡ unwrap_or place end
    → ((h : ℕ) → h < start → hash_at own h ≡ hash_at own end → ⊥) → StopsAt own start end top
top_is own start end top hash place le at found is apart =
    let w = found_low (hash_at own end) own end le refl in
    let there : height_of (hash_at own end) own ≡ Some (length w.0) = ap (λ (o : Option Chain). option_map (λ (c : Chain). length c) o) w.1 in
    let e : top ≡ length w.0 = is ∙ ap (λ (o : Option ℕ). unwrap_or o end) (found ∙ ap (λ (x : Hash). height_of x own) at ∙ there) in
    stops_at own start end top le (there ∙ ap (λ (n : ℕ). Some n) (sym e)) apart

minus_one : (n : ℕ) → n - 1 ≡ pred n
minus_one zero = refl
minus_one (suc n) = omega arith

-- the range's blocks, and the block below them, by the part
pub blocks_are : (own : Chain) (top start i : ℕ) (part : Chain) (held : List Hash) → part ≡ lower top own → i ≡ top → held ≡ map block_hash_of (drop (start - 1) (take i (reverse own))) → held ≡ map block_hash_of (above (pred start) part)
blocks_are own top start i part held is e before =
    before
    ∙ ap (λ (n : ℕ). map block_hash_of (drop (start - 1) (take n (reverse own)))) e
    ∙ ap (λ (k : ℕ). map block_hash_of (drop k (take top (reverse own)))) (minus_one start)
    ∙ ap (map block_hash_of) (sym (above_part own top (pred start)))
    ∙ ap (λ (c : Chain). map block_hash_of (above (pred start) c)) (sym is)

drop_none : {A : Type 0} (n : ℕ) → drop {A = A} n [] ≡ []
drop_none zero = refl
drop_none (suc n) = refl

dropped : (xs : Chain) (a b : ℕ) → drop (a + b) xs ≡ drop b (drop a xs)
dropped xs zero b = (let on : zero + b ≡ b = omega arith in ap (λ (j : ℕ). drop j xs) on)
dropped [] (suc a) b = (let on : suc a + b ≡ suc (a + b) = omega arith in ap (λ (j : ℕ). drop {A = Header} j []) on ∙ sym (drop_none b))
dropped (x ∷ xs) (suc a) b = (let on : suc a + b ≡ suc (a + b) = omega arith in ap (λ (j : ℕ). drop j (x ∷ xs)) on ∙ dropped xs a b)

lower_lower : (own : Chain) (top k : ℕ) → k ≤ top → top ≤ length own → lower k own ≡ lower k (lower top own)
lower_lower own top k low high =
    let n : length (lower top own) ≡ top = length-drop (length own - top) own ∙ omega (arith, high) in
    let m : length own - k ≡ length own - top + (top - k) = omega (arith, low, high) in
    ap (λ (j : ℕ). drop j own) m ∙ dropped own (length own - top) (top - k) ∙ ap (λ (j : ℕ). drop (j - k) (lower top own)) (sym n)

pub parent_is : (own : Chain) (top start : ℕ) (part : Chain) → part ≡ lower top own → start ≤ top → top ≤ length own → hash_at own (start - 1) ≡ tip_hash (lower (pred start) part)
parent_is own top start part is low high =
    ap tip_hash (lower_lower own top (start - 1) (omega (arith, low)) high)
    ∙ ap (λ (c : Chain). tip_hash (lower (start - 1) c)) (sym is)
    ∙ ap (λ (k : ℕ). tip_hash (lower k part)) (minus_one start)

-- ---- a stop that stands at no lower height

pub apart_claims : (tables : Tables) (p : ℕ) (own : Chain) (start end : ℕ) → AreClaimed tables p own (start - 1) → IsAbove (hash_at own end) → tables p (hash_at own end) ≡ None
    → (h : ℕ) → h < start → hash_at own h ≡ hash_at own end → ⊥
apart_claims tables p own start end claimed up none h lt e = elim (cases_lt h 1) [
  | inl low ↦ (let at : h ≡ 0 = omega (arith, low) in up (sym e ∙ ap (hash_at own) at ∙ first_is own (hash_at own 0) refl))
  | inr high ↦ (
      let some = claimed h high (omega (arith, lt)) (subst IsAbove (sym e) up) in
      let no = subst IsSome (ap (tables p) e ∙ none) some in cc no
      )
]

pub apart_filters : (extracts : ExtractTable) (tables : Tables) (verdicts : Verdicts) (opens : Opens) (own : Chain) (start end : ℕ) → AreSought extracts tables verdicts opens own (start - 1)
    → IsToAsk extracts tables verdicts opens (hash_at own end) → (h : ℕ) → h < start → hash_at own h ≡ hash_at own end → ⊥
apart_filters extracts tables verdicts opens own start end sought ask h lt e = elim (cases_lt h 1) [
  | inl low ↦ (let at : h ≡ 0 = omega (arith, low) in ask.above (sym e ∙ ap (hash_at own) at ∙ first_is own (hash_at own 0) refl))
  | inr high ↦ sought h high (omega (arith, lt)) (subst (IsToAsk extracts tables verdicts opens) (sym e) ask)
]

pub wish_claims : (extracts : ExtractTable) (tables : Tables) (verdicts : Verdicts) (opens : Opens) (p : ℕ) (own : Chain) (common start end : ℕ) (span : Span) → IsSought extracts tables verdicts opens p own common (ClaimsFrom start)
    → IsSpan own start end span → end ≤ common → end < start + 2000 → AreUnclaimed tables p own start end → IsWish extracts tables verdicts opens p own common (Claims span)
wish_claims extracts tables verdicts opens p own common start end span want is low few un =
    let e = sym is.first in (
      subst (λ (n : ℕ). IsSought extracts tables verdicts opens p own common (ClaimsFrom n)) e want,
      (end, (subst (λ (n : ℕ). IsSpan own n end span) e is, low, subst (λ (n : ℕ). end < n + 2000) e few, subst (λ (n : ℕ). AreUnclaimed tables p own n end) e un)),
    )

pub wish_filters : (extracts : ExtractTable) (tables : Tables) (verdicts : Verdicts) (opens : Opens) (p : ℕ) (own : Chain) (common start end : ℕ) (span : Span) → IsSought extracts tables verdicts opens p own common (FiltersFrom start)
    → IsSpan own start end span → end ≤ common → end < start + 1000 → AreToAsk extracts tables verdicts opens own start end → IsWish extracts tables verdicts opens p own common (Filters span)
wish_filters extracts tables verdicts opens p own common start end span want is low few un =
    let e = sym is.first in (
      subst (λ (n : ℕ). IsSought extracts tables verdicts opens p own common (FiltersFrom n)) e want,
      (end, (subst (λ (n : ℕ). IsSpan own n end span) e is, low, subst (λ (n : ℕ). end < n + 1000) e few, subst (λ (n : ℕ). AreToAsk extracts tables verdicts opens own n end) e un)),
    )

-- a question goes as far as it may
pub far_claims : (extracts : ExtractTable) (tables : Tables) (verdicts : Verdicts) (opens : Opens) (p : ℕ) (own : Chain) (common start end : ℕ) (span : Span) → IsSpan own start end span
    → AreUnclaimed tables p own start end → IsLastUnclaimed tables p own start end common → GoesFar extracts tables verdicts opens p own common (Claims span)
far_claims extracts tables verdicts opens p own common start end span is un last =
    let e = sym is.first in
    (end, (is.stop, subst (λ (n : ℕ). AreUnclaimed tables p own n end) e un, subst (λ (n : ℕ). IsLastUnclaimed tables p own n end common) e last))

pub far_filters : (extracts : ExtractTable) (tables : Tables) (verdicts : Verdicts) (opens : Opens) (p : ℕ) (own : Chain) (common start end : ℕ) (span : Span) → IsSpan own start end span
    → AreToAsk extracts tables verdicts opens own start end → IsLastToAsk extracts tables verdicts opens own start end common → GoesFar extracts tables verdicts opens p own common (Filters span)
far_filters extracts tables verdicts opens p own common start end span is un last =
    let e = sym is.first in
    (end, (is.stop, subst (λ (n : ℕ). AreToAsk extracts tables verdicts opens own n end) e un, subst (λ (n : ℕ). IsLastToAsk extracts tables verdicts opens own n end common) e last))
