-- statement: the check value of an address: BIP 173 "Checksum", with the constant of BIP 350 "Bech32m".
use Rattle.std.specs.Prelude.{ℕ, ◌*◌, ◌/◌, ◌%◌, ◌^◌, ◌==◌, if◌then◌else◌, List, ◌∷◌, ◌++◌, map, fold, bit_xor}
use Rattle.std.specs.Int.{bit_at}

-- this number, where bit i of b is set
unfoldable pub where_set : ℕ → ℕ → ℕ → ℕ
where_set b i number = if bit_at b i == 1 then number else 0

-- the generator of the code, times a value of five bits
unfoldable pub times_generator : ℕ → ℕ
times_generator b =
    bit_xor (bit_xor (bit_xor (bit_xor (where_set b 0 0x3b6a57b2) (where_set b 1 0x26508e6d)) (where_set b 2 0x1ea119fa)) (where_set b 3 0x3d4233dd)) (where_set b 4 0x2a1462b3)

-- What is left of a polynomial over values of five bits, divided by the generator, once it has one value more:
-- six values in one number, the first one in the upper bits.
unfoldable pub remainder_with : ℕ → ℕ → ℕ
remainder_with c v = bit_xor (bit_xor (c % 2 ^ 25 * 32) v) (times_generator (c / 2 ^ 25))

-- what is left once the polynomial has these values more, in order
abbrev pub remainder_from : ℕ → List ℕ → ℕ
remainder_from c values = fold remainder_with c values

-- a prefix as values: the upper bits of its bytes, a zero, and their lower five
abbrev pub expanded : List ℕ → List ℕ
expanded prefix = map (λ b. b / 32) prefix ++ 0 ∷ map (λ b. b % 32) prefix

-- the check value of a prefix and the values after it
abbrev pub bech32_checksum : List ℕ → List ℕ → ℕ
bech32_checksum prefix values = remainder_from 1 (expanded prefix ++ values)

-- what the check value of an address has to be
abbrev pub checksum_for : ℕ → ℕ
checksum_for version = if version == 0 then 1 else 0x2bc830a3
