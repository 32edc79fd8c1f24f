-- statement: numbers in decimal, without a sign and without leading zeros.
use Rattle.std.specs.Prelude.{ℕ, ◌+◌, ◌*◌, ◌-◌, ◌==◌, ◌&&◌, not, nat_le, Bool, true, false, if◌then◌else◌, List, [], ◌∷◌, fold, Option, Some, None}
use Rattle.std.specs.List.{list_all}

-- the ASCII digits are 48 to 57
abbrev pub is_digit : ℕ → Bool
is_digit b = nat_le 48 b && nat_le b 57

-- one digit, or several of which the first is no 0
abbrev pub is_led_well : List ℕ → Bool
is_led_well [] = false
is_led_well (b ∷ []) = true
is_led_well (b ∷ c ∷ rest) = not (b == 48)

-- decimal digits, at least one, without a leading zero unless it is the only one
abbrev pub is_number : List ℕ → Bool
is_number text = list_all is_digit text && is_led_well text

-- a number with one digit more behind it
abbrev pub with_digit : ℕ → ℕ → ℕ
with_digit n b = 10 * n + (b - 48)

-- the number that digits spell
abbrev pub number_of : List ℕ → ℕ
number_of text = fold with_digit 0 text

-- the number of a text, where it is one up to this
abbrev pub number_at_most : ℕ → List ℕ → Option ℕ
number_at_most most text =
    if is_number text && nat_le (number_of text) most then Some (number_of text)
    else None

-- the number of a text, where it is one from 1 up to this
abbrev pub number_within : ℕ → List ℕ → Option ℕ
number_within most text =
    if is_number text && (nat_le 1 (number_of text) && nat_le (number_of text) most) then Some (number_of text)
    else None
