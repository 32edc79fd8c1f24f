-- statement: the script of an address, found from its text alone.
use Rattle.std.specs.Prelude.{ℕ, zero, suc, ◌+◌, ◌-◌, ◌*◌, ◌/◌, ◌^◌, Bool, if◌then◌else◌, List, [], ◌∷◌, length, take, drop, map, slice_index, Option, Some, None}
use Rattle.std.specs.Char.{to_ascii_lowercase}
use Rattle.cf_address.specs.Alphabet.{value_of}
use Rattle.cf_address.specs.Bits.{all_bits}
use Rattle.cf_address.specs.Faults.{data_after}
use Rattle.cf_address.specs.Witness.{script_of}

-- the number that bits are, the most significant first
unfoldable pub number_of_bits : List Bool → ℕ
number_of_bits [] = 0
number_of_bits (b ∷ bits) = (if b then 1 else 0) * 2 ^ length bits + number_of_bits bits

-- so many bytes from the front of bits
unfoldable pub bytes_of_bits : ℕ → List Bool → List ℕ
bytes_of_bits zero bits = []
bytes_of_bits (suc n) bits = number_of_bits (take 8 bits) ∷ bytes_of_bits n (drop 8 bits)

-- the script of the values after a prefix: the first is the version, the last six are the check value's
abbrev pub script_of_values : List ℕ → List ℕ
script_of_values values =
    let bits = all_bits 5 (take (length values - 7) (drop 1 values)) in
    script_of (record { version = slice_index values 0; bytes = bytes_of_bits (length bits / 8) bits })

-- the script of the letters after a prefix; no bytes where a text has none
abbrev pub script_of_letters : Option (List ℕ) → List ℕ
script_of_letters None = []
script_of_letters (Some letters) = script_of_values (map value_of letters)

-- the script of a text that is an address
abbrev pub address_script : List ℕ → List ℕ → List ℕ
address_script prefix text = script_of_letters (data_after prefix (map to_ascii_lowercase text))
