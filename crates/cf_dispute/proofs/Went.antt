-- Whether the claims of blocks, put in one after the other, differ from others.
use Rattle.std.proofs.Common.{◌≡◌, ◌≢◌, ◌⊎◌, inl, inr, ℕ, zero, suc, ◌+◌, ◌<◌, ◌≤◌, Bool, true, false, ◌||◌, List, [], ◌∷◌, length, drop, get_or, None, refl, sym, ◌∙◌, ap, subst, arith}
use Rattle.std.proofs.lemmas.Bool.{cases_Bool, cases_eq}
use Rattle.std.proofs.lemmas.List.{drop_all, length-map}
use Rattle.cf_bytes.specs.declared.hash.Hash32.{Hash32}
use Rattle.cf_headers.specs.Chain.{Hash, IsIn}
use Rattle.cf_headers.specs.Counts.{AreDistinct}
use Rattle.cf_headers.specs.Rules.{same}
use Rattle.cf_dispute.specs.declared.claim.At.TheVariants.{Differ}
use Rattle.cf_dispute.specs.Claims.{Tables, IsAt}
use Rattle.cf_dispute.specs.Agree.{AgreeAt, ClaimsNone}
use Rattle.cf_dispute.specs.Tables.{blocks_of}
use Rattle.cf_dispute.proofs.PutIn.{same_true, at_in, in_first, names_at}
use Rattle.cf_dispute.proofs.RowLaws.{block_same, off_same}

-- p gave a hash for each of the first i blocks: others claim the same, or of one of them differ
pub record Went (blocks : List Hash32) (i p : ℕ) (start now : Tables) (differ : Bool) : Type 0 where
  pub agreed : differ ≡ false → (b : Hash) → IsIn b (blocks_of blocks) → (IsAt now b Differ → ⊥) ⊎ IsIn b (drop i (blocks_of blocks))
  pub left : AreDistinct blocks → ClaimsNone (start p) blocks → (b : Hash) → IsIn b (drop i (blocks_of blocks)) → now p b ≡ None
  pub differs : differ ≡ true → AreDistinct blocks → ClaimsNone (start p) blocks
      → (b : Hash) × (IsIn b (blocks_of blocks) × ((IsIn b (drop i (blocks_of blocks)) → ⊥) × IsAt now b Differ))

differ_as : (a b : Tables) (block : Hash) → ((q : ℕ) → b q block ≡ a q block) → IsAt a block Differ → IsAt b block Differ
differ_as a b block alike d =
    let c = d.1.1.1.1.0 in
    let e = d.1.1.1.1.1 in
    (d.0, (d.1.0, (d.1.1.0, (d.1.1.1.0, ((c.0, alike d.0 ∙ c.1, c.2), (e.0, alike d.1.0 ∙ e.1, e.2), d.1.1.1.1.2)))))

-- nobody's claim of another block has changed
pub elsewhere_all : (p : ℕ) (block : Hash) (before after : Tables) → ((b : Hash) → (b ≡ block → ⊥) → after p b ≡ before p b) → ((q : ℕ) → q ≢ p → (b : Hash) → after q b ≡ before q b)
    → (q : ℕ) (b : Hash) → (b ≡ block → ⊥) → after q b ≡ before q b
elsewhere_all p block before after elsewhere others q b off = elim (cases_eq q p) [
  | inl e ↦ ap (λ (k : ℕ). after k b) e ∙ elsewhere b off ∙ ap (λ (k : ℕ). before k b) (sym e)
  | inr ne ↦ others q ne b
]

named_in : (x : Hash32) (xs : List Hash32) → IsIn x.0 (blocks_of xs) → IsIn x xs
named_in x [] i = i
named_in x (y ∷ ys) (inl e) = inl (block_same x y e)
named_in x (y ∷ ys) (inr i) = inr (named_in x ys i)

-- where no block is named twice, a later one is another
later_other : (blocks : List Hash32) (i : ℕ) (d : Hash32) (b : Hash) → i < length blocks → AreDistinct blocks → IsIn b (drop (suc i) (blocks_of blocks)) → b ≡ (get_or blocks i d).0 → ⊥
later_other [] i d b low apart later e = absurd (omega (arith, low))
later_other (x ∷ xs) zero d b low apart later e = apart.0 (named_in x xs (subst (λ (k : Hash). IsIn k (blocks_of xs)) e later))
later_other (x ∷ xs) (suc i) d b low apart later e = later_other xs i d b (omega (arith, low)) apart.1 later e

or_none : (a b : Bool) → (a || b) ≡ false → (a ≡ false) × (b ≡ false)
or_none false false e = (refl, refl)
or_none false true e = absurd (cc e)
or_none true b e = absurd (cc e)

pub went_on : (blocks : List Hash32) (i : ℕ) (d : Hash32) (p : ℕ) (start before after : Tables) (differ more : Bool) → i < length blocks
    → (more ≡ false → IsAt after (get_or blocks i d).0 Differ → ⊥) → (more ≡ true → before p (get_or blocks i d).0 ≡ None → IsAt after (get_or blocks i d).0 Differ)
    → ((q : ℕ) (b : Hash) → (b ≡ (get_or blocks i d).0 → ⊥) → after q b ≡ before q b) → Went blocks i p start before differ → Went blocks (i + 1) p start after (differ || more)
went_on blocks i d p start before after differ more low agrees differs elsewhere w = record {
  agreed = λ off b is.
      let o = or_none differ more off in
      elim (w.agreed o.0 b is) [
        | inl none ↦ elim (cases_Bool (same b (get_or blocks i d).0)) [
          | inl one ↦ inl (λ at. agrees o.1 (subst (λ (k : Hash). IsAt after k Differ) (same_true b (get_or blocks i d).0 one) at))
          | inr ne ↦ inl (λ at. none (differ_as after before b (λ q. sym (elsewhere q b (off_same b (get_or blocks i d).0 false ne refl))) at))
        ]
        | inr later ↦ elim (in_first blocks i d b low later) [
          | inl one ↦ inl (λ at. agrees o.1 (subst (λ (k : Hash). IsAt after k Differ) one at))
          | inr rest ↦ inr rest
        ]
      ];
  left = λ apart free b later. elsewhere p b (other apart b later) ∙ w.left apart free b (still b later);
  differs = λ on apart free. by apart free differ refl on;
}
  where
    rest_is : drop i (blocks_of blocks) ≡ (get_or blocks i d).0 ∷ drop (i + 1) (blocks_of blocks)
    rest_is = names_at blocks i d low

    still : (b : Hash) → IsIn b (drop (i + 1) (blocks_of blocks)) → IsIn b (drop i (blocks_of blocks))
    still b later = subst (λ (xs : List Hash). IsIn b xs) (sym rest_is) (inr later)

    here : IsIn (get_or blocks i d).0 (drop i (blocks_of blocks))
    here = subst (λ (xs : List Hash). IsIn (get_or blocks i d).0 xs) (sym rest_is) (inl refl)

    other : AreDistinct blocks → (b : Hash) → IsIn b (drop (i + 1) (blocks_of blocks)) → b ≡ (get_or blocks i d).0 → ⊥
    other apart b later =
        let step : i + 1 ≡ suc i = omega arith in
        later_other blocks i d b low apart (subst (λ (n : ℕ). IsIn b (drop n (blocks_of blocks))) step later)

    by : AreDistinct blocks → ClaimsNone (start p) blocks → (z : Bool) → differ ≡ z → (differ || more) ≡ true
        → (b : Hash) × (IsIn b (blocks_of blocks) × ((IsIn b (drop (i + 1) (blocks_of blocks)) → ⊥) × IsAt after b Differ))
    by apart free true e on =
        let s = w.differs e apart free in
        (s.0, (s.1.0, (λ later. s.1.1.0 (still s.0 later), differ_as before after s.0 (λ q. elsewhere q s.0 (λ f. s.1.1.0 (subst (λ (k : Hash). IsIn k (drop i (blocks_of blocks))) (sym f) here))) s.1.1.1)))
    by apart free false e on =
        let more_on : more ≡ true = subst (λ (z : Bool). (z || more) ≡ true) e on in
        ((get_or blocks i d).0, (at_in blocks i d low, (λ later. other apart (get_or blocks i d).0 later refl, differs more_on (w.left apart free (get_or blocks i d).0 here))))

pub went_agreed : (blocks : List Hash32) (i p : ℕ) (start now : Tables) (differ : Bool) → Went blocks i p start now differ → length blocks ≤ i → differ ≡ false → AgreeAt now blocks
went_agreed blocks i p start now differ w high off = λ b is at. elim (w.agreed off b is) [
  | inl none ↦ none at
  | inr later ↦ subst (λ (xs : List Hash). IsIn b xs) (drop_all i (blocks_of blocks) (let e = length-map blocks (λ (x : Hash32). x.0) in omega (arith, e, high))) later
]
