-- Lists that threads made, item by item.
use Rattle.std.proofs.Common.{◌≡◌, ◌<◌, ◌≤◌, ◌+◌, ◌-◌, ℕ, zero, suc, List, [], ◌∷◌, Result, Ok, Err, Vec, Global, map, length, IfOk, refl, sym, subst, arith}
use Rattle.std.specs.Prelude.{MatchResult}
use Rattle.std.specs.List.{AllZip, range_with_len}
use Rattle.rayon.specs.Numbers.{nat_range}

each : {A X : Type 0} (E : Type 0) (P : A → X → Type 0) (places : List A) (ys : List X) → AllZip (λ a (r : Result X E). IfOk r (P a)) places (map Ok ys) → AllZip P places ys
each E P [] [] h = h
each E P [] (y ∷ ys) h = absurd h
each E P (a ∷ places) [] h = absurd h
each E P (a ∷ places) (y ∷ ys) h = (h.0, each E P places ys h.1)

-- what each place gave, where all gave something
pub gathered : {A X E : Type 0} (P : A → X → Type 0) (places : List A) (xs : List (Result X E)) (r : Result (Vec X Global) E) (Q : E → Type 0)
    → AllZip (λ a x. IfOk x (P a)) places xs → MatchResult r (λ v. (ys : List X) × (xs ≡ map Ok ys) × (v.items ≡ ys)) Q → IfOk r (λ v. AllZip P places v.items)
gathered {A} {X} {E} P places xs (Ok v) Q h m =
    let R : List (Result X E) → Type 0 = AllZip (λ a x. IfOk x (P a)) places in
    let S : List X → Type 0 = AllZip P places in
    subst S (sym m.2) (each E P places m.0 (subst R m.1 h))
gathered P places xs (Err e) Q h m = tt

module _ {X : Type 0} (R : ℕ → X → Type 0) where
  next_of : (a n : ℕ) (y : X) (ys : List X) → AllZip R (range_with_len a n) (y ∷ ys) → (m : ℕ) × (n ≡ suc m) × R a y × AllZip R (range_with_len (a + 1) m) ys
  next_of a zero y ys h = absurd h
  next_of a (suc n) y ys h = (n, refl, h.0, h.1)

  -- the first item is of the first place, and the others of those after it
  pub next_at : (a b : ℕ) (rest : List X) (y z : X) (ys : List X) → rest ≡ y ∷ ys → y ≡ z → AllZip R (nat_range a b) rest → (a < b) × R a z × AllZip R (nat_range (a + 1) b) ys
  next_at a b rest y z ys e w h =
      let P : List X → Type 0 = AllZip R (nat_range a b) in
      let s = next_of a (b - a) y ys (subst P e h) in
      let fewer : s.0 ≡ b - (a + 1) = omega (arith, s.1) in
      let Q : X → Type 0 = R a in
      let S : ℕ → Type 0 = λ n. AllZip R (range_with_len (a + 1) n) ys in
      (omega (arith, s.1), subst Q w s.2, subst S fewer s.3)

  -- where no item is left, no place is
  pub none_at : (a b : ℕ) (rest : List X) → length rest ≡ 0 → AllZip R (nat_range a b) rest → b ≤ a
  none_at a b rest e h = by_length (b - a) rest refl e h where
    by_length : (n : ℕ) (rest : List X) → n ≡ b - a → length rest ≡ 0 → AllZip R (range_with_len a n) rest → b ≤ a
    by_length zero rest is e h = omega (arith, is)
    by_length (suc n) [] is e h = absurd h
    by_length (suc n) (x ∷ rest) is e h = absurd (omega (arith, e))
