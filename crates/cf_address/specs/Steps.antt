-- machine: what the steps of reading an address answer.
use Rattle.std.specs.Prelude.{◌≡◌, ℕ, ◌/◌, ◌*◌, ◌+◌, fold, true, false, List, length, map, Some, Vec, Result, Ok, Err}
use Rattle.std.specs.Global.{Global}
use Rattle.std.specs.List.{list_all}
use Rattle.cf_bytes.specs.declared.memory.Refused.{Refused}
use Rattle.cf_bytes.specs.declared.memory.Refused.TheVariants.{No, NoMemory}
use Rattle.cf_address.specs.declared.fault.AddressFault.{AddressFault}
use Rattle.cf_address.specs.declared.fault.AddressFault.TheVariants.{Digit, Padding}
use Rattle.cf_address.specs.Bits.{all_bits, AreBelow, AreFivesOf}
use Rattle.cf_address.specs.Alphabet.{is_letter, value_of}
use Rattle.cf_address.specs.Witness.{WitnessProgram, IsProgram}
use Rattle.cf_address.specs.Address.{AreValuesOf}
use Rattle.cf_address.specs.Faults.{left_over, is_more, values_fault}

-- the values of letters, or that one is none
abbrev pub GivesValues : List ℕ → Result (Vec ℕ Global) (Refused AddressFault) → Type 0
GivesValues letters (Ok values) = (list_all is_letter letters ≡ true) × (values.items ≡ map value_of letters) × AreBelow 32 values.items
GivesValues letters (Err (No fault)) = (list_all is_letter letters ≡ false) × (fault ≡ Digit)
GivesValues letters (Err NoMemory) = Unit {0}

-- the bytes whose bits in fives these are, or that what is left over is no padding
abbrev pub GivesBytes : List ℕ → Result (Vec ℕ Global) (Refused AddressFault) → Type 0
GivesBytes fives (Ok bytes) = (is_more (left_over (all_bits 5 fives)) ≡ false) × (length (all_bits 5 fives) / 8 ≡ length bytes.items) × AreFivesOf bytes.items fives × AreBelow 256 bytes.items
GivesBytes fives (Err (No fault)) = (is_more (left_over (all_bits 5 fives)) ≡ true) × (fault ≡ Padding)
GivesBytes fives (Err NoMemory) = Unit {0}

-- the program of values, or their first fault
abbrev pub GivesProgram : List ℕ → List ℕ → Result WitnessProgram (Refused AddressFault) → Type 0
GivesProgram prefix values (Ok program) = IsProgram program × AreValuesOf prefix program values
GivesProgram prefix values (Err (No fault)) = values_fault prefix values ≡ Some fault
GivesProgram prefix values (Err NoMemory) = Unit {0}

-- values of five bits as one number, the first one in the upper bits
abbrev pub number_of : List ℕ → ℕ
number_of values = fold (λ n v. n * 32 + v) 0 values
