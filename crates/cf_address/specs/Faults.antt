-- statement: the first thing that is wrong with a text that is no address.
use Rattle.std.specs.Prelude.{◌≡◌, ℕ, ◌-◌, ◌*◌, ◌/◌, ◌==◌, nat_lt, Bool, not, ◌&&◌, ◌||◌, if◌then◌else◌, List, [], ◌∷◌, length, take, drop, map, slice_index, Option, Some, None, Result, Ok, Err}
use Rattle.std.specs.List.{list_all, list_any}
use Rattle.std.specs.Option.{option_or}
use Rattle.std.specs.Char.{is_ascii_graphic, is_ascii_lowercase, is_ascii_uppercase, to_ascii_lowercase}
use Rattle.cf_bytes.specs.declared.memory.Refused.{Refused}
use Rattle.cf_bytes.specs.declared.memory.Refused.TheVariants.{No, NoMemory}
use Rattle.cf_address.specs.declared.fault.AddressFault.{AddressFault}
use Rattle.cf_address.specs.declared.fault.AddressFault.TheVariants.{Long, Byte, Mixed, Prefix, Digit, Version, Checksum, Padding, Length}
use Rattle.cf_address.specs.Bits.{all_bits}
use Rattle.cf_address.specs.Alphabet.{is_letter, value_of}
use Rattle.cf_address.specs.Checksum.{bech32_checksum, checksum_for}
use Rattle.cf_address.specs.Witness.{WitnessProgram, is_length}
use Rattle.cf_address.specs.Address.{IsAddressOf}

-- whether a text has letters of both cases
abbrev pub is_mixed : List ℕ → Bool
is_mixed text = list_any is_ascii_lowercase text && list_any is_ascii_uppercase text

-- what stands after the prefix and the last `1`, where the prefix alone stands before it
abbrev pub data_after : List ℕ → List ℕ → Option (List ℕ)
data_after [] [] = None
data_after [] (c ∷ rest) = if c == 49 && not (list_any (λ b. b == 49) rest) then Some rest else None
data_after (p ∷ prefix) [] = None
data_after (p ∷ prefix) (c ∷ text) = if c == p then data_after prefix text else None

-- the bits that fill no byte
abbrev pub left_over : List Bool → List Bool
left_over bits = drop (8 * (length bits / 8)) bits

-- whether they are no padding: more than four, or one that isn't zero
abbrev pub is_more : List Bool → Bool
is_more left = nat_lt 4 (length left) || list_any (λ b. b) left

-- of a version and the bits of the values for its program
abbrev pub bits_fault : ℕ → List Bool → Option AddressFault
bits_fault version bits =
    if is_more (left_over bits) then Some Padding
    else if not (is_length version (length bits / 8)) then Some Length
    else None

-- of the values after the prefix
abbrev pub values_fault : List ℕ → List ℕ → Option AddressFault
values_fault prefix values =
    let version = slice_index values 0 in
    if nat_lt (length values) 7 || nat_lt 16 version then Some Version
    else if not (bech32_checksum prefix values == checksum_for version) then Some Checksum
    else bits_fault version (all_bits 5 (take (length values - 7) (drop 1 values)))

-- of what stands after the prefix and `1`
abbrev pub data_fault : List ℕ → Option (List ℕ) → Option AddressFault
data_fault prefix None = Some Prefix
data_fault prefix (Some letters) = if not (list_all is_letter letters) then Some Digit else values_fault prefix (map value_of letters)

-- of a text, whatever it says
abbrev pub text_fault : List ℕ → Option AddressFault
text_fault text =
    if nat_lt 90 (length text) then Some Long
    else if not (list_all is_ascii_graphic text) then Some Byte
    else if is_mixed text then Some Mixed
    else None

-- of a text that is to be an address
abbrev pub address_fault : List ℕ → List ℕ → Option AddressFault
address_fault prefix text = option_or (text_fault text) (data_fault prefix (data_after prefix (map to_ascii_lowercase text)))

-- what reading a text answers: the program of an address, or the first fault
abbrev pub Reads : List ℕ → List ℕ → Result WitnessProgram (Refused AddressFault) → Type 0
Reads prefix text (Ok program) = IsAddressOf prefix program text
Reads prefix text (Err (No fault)) = address_fault prefix text ≡ Some fault
Reads prefix text (Err NoMemory) = Unit {0}
