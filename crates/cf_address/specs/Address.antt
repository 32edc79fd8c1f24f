-- statement: addresses of witness programs: BIP 173 "Segwit address format" and BIP 350.
use Rattle.std.specs.Prelude.{◌≡◌, ℕ, ◌≤◌, ◌⊎◌, nat_lt, nat_le, Bool, ◌&&◌, List, ◌∷◌, ◌++◌, length, map}
use Rattle.std.specs.List.{list_all}
use Rattle.std.specs.Char.{is_ascii_lowercase, to_ascii_uppercase}
use Rattle.cf_address.specs.Bits.{AreBelow, AreFivesOf}
use Rattle.cf_address.specs.Alphabet.{letter_of}
use Rattle.cf_address.specs.Checksum.{bech32_checksum, checksum_for}
use Rattle.cf_address.specs.Witness.{WitnessProgram, IsProgram}

-- what the addresses of a network may begin with: 1 to 10 lower-case letters
abbrev pub is_prefix : List ℕ → Bool
is_prefix prefix = nat_lt 0 (length prefix) && nat_le (length prefix) 10 && list_all is_ascii_lowercase prefix

-- The values of an address after its prefix: the version, the program's bits in fives padded with zeros, and six that make the check value right.
pub record AreValuesOf (prefix : List ℕ) (program : WitnessProgram) (values : List ℕ) : Type 0 where
  pub fives : List ℕ
  pub check : List ℕ
  pub whole : values ≡ program.version ∷ (fives ++ check)
  pub padded : AreFivesOf program.bytes fives
  pub six : length check ≡ 6
  pub small : AreBelow 32 check
  pub right : bech32_checksum prefix values ≡ checksum_for program.version

-- the prefix, `1`, and the letters of the values
abbrev pub address_with : List ℕ → List ℕ → List ℕ
address_with prefix values = prefix ++ 49 ∷ map letter_of values

-- a text that is an address of this program: all in lower case or all in upper case, and of at most 90 bytes
pub record IsAddressOf (prefix : List ℕ) (program : WitnessProgram) (text : List ℕ) : Type 0 where
  pub program_is : IsProgram program
  pub values : List ℕ
  pub values_are : AreValuesOf prefix program values
  pub spelled : (text ≡ address_with prefix values) ⊎ (text ≡ map to_ascii_uppercase (address_with prefix values))
  pub few : length text ≤ 90
