-- statement: the letters of the data of an address: BIP 173 "Bech32".
use Rattle.std.specs.Prelude.{ℕ, ◌==◌, nat_lt, Bool, List, slice_index}
use Rattle.std.specs.List.{position_or_len}
use Rattle.std.specs.Prelude.{codes}

-- the letters for the values 0 to 31, in their order
unfoldable pub alphabet : List ℕ
alphabet = codes "qpzry9x8gf2tvdw0s3jn54khce6mua7l"

-- the letter for a value below 32
abbrev pub letter_of : ℕ → ℕ
letter_of value = slice_index alphabet value

-- the value of a letter, and 32 for any other byte
abbrev pub value_of : ℕ → ℕ
value_of letter = position_or_len (λ c. c == letter) alphabet

-- a byte is one of the letters
abbrev pub is_letter : ℕ → Bool
is_letter byte = nat_lt (value_of byte) 32
