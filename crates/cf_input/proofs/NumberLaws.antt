-- Numbers are those of the decimal texts.
use Rattle.std.proofs.Common.{◌≡◌, ℕ, ◌<◌, ◌^◌, true, List, [], ◌∷◌, zero, suc, length, get_or, refl, arith, rules}
use Rattle.std.specs.Prelude.{fold}
use Rattle.std.specs.List.{list_all}
use Rattle.std.specs.Fmt.{decimal}
use Rattle.std.proofs.lemmas.Bool.{and_parts, and_from}
use Rattle.std.proofs.lemmas.Bool.Decides.{nat_tests}
use Rattle.std.proofs.lemmas.Fmt.{digits_decimal, digits_value-decimal, decimal-digits_value, decimal_digit, first_decimal}
use Rattle.std.proofs.lemmas.Str.Parse.{IsNumeralModel, numerals_by_fold}
use Rattle.cf_input.specs.Number.{is_digit, is_led_well, is_number, with_digit, number_of}

own : IsNumeralModel (λ ds. list_all is_digit ds ≡ true) number_of
own = numerals_by_fold _ (search rules) (λ n ds. fold with_digit n ds) (search rules)

led : (text : List ℕ) → 48 < get_or text 0 0 → is_led_well text ≡ true
led [] h = absurd (omega arith)
led (b ∷ []) h = refl
led (b ∷ c ∷ rest) h = grind (arith, nat_tests)

led_decimal : (n : ℕ) → n < 2 ^ 64 → is_led_well (decimal n) ≡ true
led_decimal zero h = rw (decimal_digit 0 (omega arith)) refl
led_decimal (suc n) h = led (decimal (suc n)) (first_decimal (suc n) (omega arith) h)

pub decimal_is_number : (n : ℕ) → n < 2 ^ 64 → (is_number (decimal n) ≡ true) × (number_of (decimal n) ≡ n)
decimal_is_number n h = (and_from (list_all is_digit (decimal n)) (is_led_well (decimal n)) (digits_decimal own n h) (led_decimal n h), digits_value-decimal own n h)

some : (text : List ℕ) → is_led_well text ≡ true → 0 < length text
some [] h = cc
some (b ∷ rest) h = omega arith

alone : (text : List ℕ) → is_led_well text ≡ true → get_or text 0 0 ≡ 48 → length text ≡ 1
alone [] h e = cc
alone (b ∷ []) h e = refl
alone (b ∷ c ∷ rest) h e = grind (arith, nat_tests)

pub number_is_decimal : (text : List ℕ) → is_number text ≡ true → number_of text < 2 ^ 64 → decimal (number_of text) ≡ text
number_is_decimal text h small =
    let both = and_parts (list_all is_digit text) (is_led_well text) h in
    decimal-digits_value own text both.0 (some text both.1) (alone text both.1) small
