-- Letters and their values.
use Rattle.std.proofs.Common.{◌≡◌, ℕ, zero, suc, ◌<◌, ◌+◌, Some, None, take, Bool, true, false, List, [], ◌∷◌, ◌++◌, length, map, get_or, refl, sym, ◌∙◌, ap, arith}
use Rattle.std.specs.Prelude.{◌==◌, ◌&&◌, ◌||◌, nat_lt, not}
use Rattle.std.specs.List.{position_or_len, list_all}
use Rattle.std.specs.Char.{is_ascii_graphic, is_ascii_uppercase, is_ascii_lowercase, to_ascii_lowercase, to_ascii_uppercase}
use Rattle.std.proofs.lemmas.List.{take_more, map-append, append_assoc}
use Rattle.std.proofs.lemmas.List.Folds.{list_all_more}
use Rattle.cf_address.specs.Bits.{AreBelow}
use Rattle.std.proofs.lemmas.Bool.{eqb-true, ltb-true, lt-ltb}
use Rattle.std.proofs.lemmas.Bool.Decides.{nat_tests}
use Rattle.std.proofs.lemmas.List.Sums.{prefix_len-le-length, passes_at_first}
use Rattle.std.specs.List.{position}
use Rattle.cf_address.specs.Alphabet.{alphabet, letter_of, value_of, is_letter}

pub length_alphabet : length alphabet ≡ 32
unfolding alphabet
length_alphabet = refl

-- a test of each number below n
every : ℕ → (ℕ → Bool) → Bool
every zero test = true
every (suc n) test = test n && every n test

both : (a b : Bool) → (a && b) ≡ true → (a ≡ true) × (b ≡ true)
both true b h = (refl, h)
both false b h = cc

one_of : (n v : ℕ) (test : ℕ → Bool) → test n ≡ true → v < suc n → (v < n → test v ≡ true) → test v ≡ true
one_of n v test here lt below = at (v == n) refl
  where
    at : (b : Bool) → (v == n) ≡ b → test v ≡ true
    at true is = ap test (eqb-true v n is) ∙ here
    at false is = below (grind (arith, nat_tests))

every_at : (n : ℕ) (test : ℕ → Bool) → every n test ≡ true → (v : ℕ) → v < n → test v ≡ true
unfolding every
every_at zero test h v lt = absurd (omega arith)
every_at (suc n) test h v lt =
    let parts = both (test n) (every n test) h in
    one_of n v test parts.0 lt (every_at n test parts.1 v)

each_value : every 32 (λ v. value_of (letter_of v) == v) ≡ true
unfolding every alphabet
each_value = refl

-- the value of a value's letter
pub value-letter : (v : ℕ) → v < 32 → value_of (letter_of v) ≡ v
value-letter v lt = eqb-true (value_of (letter_of v)) v (every_at 32 (λ n. value_of (letter_of n) == n) each_value v lt)

-- what a place among the letters says
pub place_is : (p : ℕ → Bool) (xs : List ℕ) (i : ℕ) → position p xs ≡ Some i → (i ≡ position_or_len p xs) × (i < length xs)
place_is p xs i is = at (nat_lt (position_or_len p xs) (length xs)) refl
  where
    at : (b : Bool) → nat_lt (position_or_len p xs) (length xs) ≡ b → (i ≡ position_or_len p xs) × (i < length xs)
    at true lt = let same : i ≡ position_or_len p xs = cc in (same, grind (arith, nat_tests))
    at false lt = absurd (cc)

pub no_place : (p : ℕ → Bool) (xs : List ℕ) → position p xs ≡ None → position_or_len p xs ≡ length xs
no_place p xs is = at (nat_lt (position_or_len p xs) (length xs)) refl
  where
    at : (b : Bool) → nat_lt (position_or_len p xs) (length xs) ≡ b → position_or_len p xs ≡ length xs
    at true lt = absurd (cc)
    at false lt = grind (arith, nat_tests, prefix_len-le-length (λ x. not (p x)) xs)

-- the letter of a letter's value
pub letter-value : (c : ℕ) → is_letter c ≡ true → letter_of (value_of c) ≡ c
letter-value c is =
    let within : value_of c < length alphabet = grind (arith, nat_tests, length_alphabet) in
    eqb-true (letter_of (value_of c)) c (passes_at_first (λ x. x == c) alphabet 0 within)

-- a letter is no capital and no `1`, and may stand in an address
stands : ℕ → Bool
stands c = (to_ascii_lowercase c == c) && not (c == 49) && is_ascii_graphic c && is_ascii_graphic (to_ascii_uppercase c) && not (is_ascii_uppercase c) && not (is_ascii_lowercase (to_ascii_uppercase c)) && nat_lt c 128

each_letter : every 32 (λ v. stands (letter_of v)) ≡ true
unfolding every alphabet stands
each_letter = refl

not-true : (b : Bool) → not b ≡ true → b ≡ false
not-true true h = sym h
not-true false h = refl

pub record Stands (c : ℕ) : Type 0 where
  pub small : to_ascii_lowercase c ≡ c
  pub no_one : (c == 49) ≡ false
  pub graphic : is_ascii_graphic c ≡ true
  pub upper_graphic : is_ascii_graphic (to_ascii_uppercase c) ≡ true
  pub no_capital : is_ascii_uppercase c ≡ false
  pub no_small : is_ascii_lowercase (to_ascii_uppercase c) ≡ false
  pub below : c < 128

stands_parts : (c : ℕ) → stands c ≡ true → Stands c
unfolding stands
stands_parts c h =
    let a = both ((to_ascii_lowercase c == c) && not (c == 49) && is_ascii_graphic c && is_ascii_graphic (to_ascii_uppercase c) && not (is_ascii_uppercase c) && not (is_ascii_lowercase (to_ascii_uppercase c))) (nat_lt c 128) h in
    let b = both ((to_ascii_lowercase c == c) && not (c == 49) && is_ascii_graphic c && is_ascii_graphic (to_ascii_uppercase c) && not (is_ascii_uppercase c)) (not (is_ascii_lowercase (to_ascii_uppercase c))) a.0 in
    let d = both ((to_ascii_lowercase c == c) && not (c == 49) && is_ascii_graphic c && is_ascii_graphic (to_ascii_uppercase c)) (not (is_ascii_uppercase c)) b.0 in
    let e = both ((to_ascii_lowercase c == c) && not (c == 49) && is_ascii_graphic c) (is_ascii_graphic (to_ascii_uppercase c)) d.0 in
    let f = both ((to_ascii_lowercase c == c) && not (c == 49)) (is_ascii_graphic c) e.0 in
    let g = both (to_ascii_lowercase c == c) (not (c == 49)) f.0 in
    record {
      small = eqb-true (to_ascii_lowercase c) c g.0;
      no_one = not-true (c == 49) g.1;
      graphic = f.1;
      upper_graphic = e.1;
      no_capital = not-true (is_ascii_uppercase c) d.1;
      no_small = not-true (is_ascii_lowercase (to_ascii_uppercase c)) b.1;
      below = ltb-true c 128 a.1;
    }

pub Stands-letter : (v : ℕ) → v < 32 → Stands (letter_of v)
Stands-letter v lt = stands_parts (letter_of v) (every_at 32 (λ n. stands (letter_of n)) each_letter v lt)

-- each small letter of ASCII does
small_stands : every 123 (λ c. not (is_ascii_lowercase c) || stands c) ≡ true
unfolding every stands
small_stands = refl

small_below : (c : ℕ) → is_ascii_lowercase c ≡ true → c < 123
small_below c h = grind (arith, nat_tests)

pub Stands-small : (c : ℕ) → is_ascii_lowercase c ≡ true → Stands c
Stands-small c h = stands_parts c (ap (λ b. not b || stands c) (sym h) ∙ every_at 123 (λ n. not (is_ascii_lowercase n) || stands n) small_stands c (small_below c h))

pub one_stands : (to_ascii_lowercase 49 ≡ 49) × (is_ascii_graphic 49 ≡ true) × (to_ascii_uppercase 49 ≡ 49) × (is_ascii_uppercase 49 ≡ false) × (is_ascii_lowercase 49 ≡ false)
one_stands = (refl, refl, refl, refl, refl)

-- a byte that is no capital stays in lower case, and one that is no small letter comes back
pub lower-fixed : (c : ℕ) → is_ascii_uppercase c ≡ false → to_ascii_lowercase c ≡ c
lower-fixed c h = grind (arith, nat_tests)

pub upper-lower-fixed : (c : ℕ) → is_ascii_lowercase c ≡ false → to_ascii_uppercase (to_ascii_lowercase c) ≡ c
upper-lower-fixed c h = grind (arith, nat_tests)

pub is_letter-none : (c : ℕ) → value_of c ≡ 32 → is_letter c ≡ false
is_letter-none c h = ap (λ n. nat_lt n 32) h

pub is_letter-some : (c v : ℕ) → v ≡ value_of c → v < 32 → is_letter c ≡ true
is_letter-some c v is lt = ap (λ n. nat_lt n 32) (sym is) ∙ lt-ltb v 32 lt

-- letters and their values, one more
pub letters_more : (xs : List ℕ) (i v : ℕ) → i < length xs → list_all is_letter (take i xs) ≡ true → v ≡ value_of (get_or xs i 0) → v < 32 → list_all is_letter (take (i + 1) xs) ≡ true
letters_more xs i v lt so_far is small =
    list_all_more is_letter xs i 0 lt ∙ ap (λ b. b && is_letter (get_or xs i 0)) so_far ∙ is_letter-some (get_or xs i 0) v is small

pub mapped_more : (f : ℕ → ℕ) (front old new xs : List ℕ) (i v : ℕ) → i < length xs → old ≡ front ++ map f (take i xs) → new ≡ old ++ v ∷ [] → v ≡ f (get_or xs i 0) → new ≡ front ++ map f (take (i + 1) xs)
mapped_more f front old new xs i v lt so_far now is =
    now ∙ (λ j. so_far j ++ is j ∷ []) ∙ append_assoc front (map f (take i xs)) (f (get_or xs i 0) ∷ [])
    ∙ ap (λ s. front ++ s) (sym (ap (map f) (take_more xs i 0 lt) ∙ map-append f (take i xs) (get_or xs i 0 ∷ [])))

pub values_of_letters : (vs : List ℕ) → AreBelow 32 vs → map value_of (map letter_of vs) ≡ vs
values_of_letters [] below = refl
values_of_letters (v ∷ vs) below = λ i. value-letter v (below 0 0 (omega arith)) i ∷ values_of_letters vs (λ k d lt. below (suc k) d (omega arith)) i

pub letters_are : (vs : List ℕ) → AreBelow 32 vs → list_all is_letter (map letter_of vs) ≡ true
letters_are [] below = refl
letters_are (v ∷ vs) below =
    ap (λ b. b && list_all is_letter (map letter_of vs)) (is_letter-some (letter_of v) v (sym (value-letter v (below 0 0 (omega arith)))) (below 0 0 (omega arith)))
    ∙ letters_are vs (λ k d lt. below (suc k) d (omega arith))

-- letters are the letters of their values
pub letters_of_values : (cs : List ℕ) → list_all is_letter cs ≡ true → map letter_of (map value_of cs) ≡ cs
letters_of_values [] h = refl
letters_of_values (c ∷ cs) h =
    let parts = both (is_letter c) (list_all is_letter cs) h in
    λ i. letter-value c parts.0 i ∷ letters_of_values cs parts.1 i

-- where a letter stands
pub ruleset positions = (place_is, no_place, length_alphabet)
