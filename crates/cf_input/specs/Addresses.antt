-- statement: addresses of regtest (BIP 173, BIP 350), and scripts in hexadecimal.
use Rattle.std.specs.Prelude.{◌≡◌, ℕ, nat_lt, ◌||◌, if◌then◌else◌, Bool, true, false, List, codes, map, take, Option, Some, None, Result, Ok, Err, String, string_bytes}
use Rattle.std.specs.Global.{Global}
use Rattle.std.specs.Char.{to_ascii_lowercase}
use Rattle.std.specs.Str.{bytes_eq}
use Rattle.hex.specs.Hex.{encode_lower}
use Rattle.cf_bytes.specs.declared.memory.Refused.{Refused}
use Rattle.cf_bytes.specs.declared.memory.Refused.TheVariants.{No, NoMemory}
use Rattle.cf_address.specs.declared.fault.AddressFault.{AddressFault}
use Rattle.cf_address.specs.declared.fault.AddressFault.TheVariants.{Long, Byte}
use Rattle.cf_address.specs.Address.{IsAddressOf}
use Rattle.cf_address.specs.Faults.{address_fault}
use Rattle.cf_address.specs.Scripts.{address_script}
use Rattle.cf_address.specs.Witness.{WitnessProgram, IsProgram, script_of}
use Rattle.cf_input.specs.Lines.{bytes_of_hex}
use Rattle.cf_input.specs.declared.addresses.AddressCause.{AddressCause}
use Rattle.cf_input.specs.declared.addresses.AddressCause.TheVariants.{Address, NotHex, NoProgram}

-- what the addresses of regtest begin with
abbrev pub regtest : List ℕ
regtest = codes "bcrt"

-- a text that is to be an address: it begins so in small letters, or in capitals
abbrev pub is_address_text : List ℕ → Bool
is_address_text text = bytes_eq (take 5 text) (codes "bcrt1") || bytes_eq (take 5 text) (codes "BCRT1")

-- a script, unless there is this fault
abbrev pub script_unless : Option AddressFault → List ℕ → Result (List ℕ) AddressFault
script_unless None script = Ok script
script_unless (Some fault) script = Err fault

-- the script of such a text, or the first fault in it
abbrev pub script_at : List ℕ → Result (List ℕ) AddressFault
script_at text = script_unless (address_fault regtest text) (address_script regtest text)

-- what is wrong with so many bytes that are no text
abbrev pub fault_of_bytes : ℕ → AddressFault
fault_of_bytes count = if nat_lt 90 count then Long else Byte

-- the script of an address, in hexadecimal
pub record IsScriptText (text line : List ℕ) : Type 0 where
  pub found : address_fault regtest text ≡ None
  pub spelled : line ≡ encode_lower (address_script regtest text)

-- the address of a script in hexadecimal, in small letters
pub record IsAddressText (text line : List ℕ) : Type 0 where
  pub program : WitnessProgram
  pub valid : IsProgram program
  pub script : bytes_of_hex text ≡ Some (script_of program)
  pub address : IsAddressOf regtest program line
  pub lower : map to_ascii_lowercase line ≡ line

-- a line is the other form of a text: of an address, as the flag tells, its script; else a script's address
abbrev pub IsFormBy : Bool → List ℕ → List ℕ → Type 0
IsFormBy true text line = IsScriptText text line
IsFormBy false text line = IsAddressText text line

-- the other form of a text: a script for an address, an address for a script
abbrev pub IsOtherForm : List ℕ → List ℕ → Type 0
IsOtherForm text line = IsFormBy (is_address_text text) text line

-- no program has this script
abbrev pub HasNoProgram : List ℕ → Type 0
HasNoProgram script = (program : WitnessProgram) → IsProgram program → script ≡ script_of program → ⊥

-- why a text has no other form
abbrev pub HasNoForm : AddressCause → List ℕ → Type 0
HasNoForm (Address fault) text = (is_address_text text ≡ true) × (address_fault regtest text ≡ Some fault)
HasNoForm NotHex text = (is_address_text text ≡ false) × (bytes_of_hex text ≡ None)
HasNoForm NoProgram text = (is_address_text text ≡ false) × ((script : List ℕ) × (bytes_of_hex text ≡ Some script) × HasNoProgram script)

-- what asking for the other form answers
abbrev pub GivesForm : List ℕ → Result (String Global) (Refused AddressCause) → Type 0
GivesForm text (Ok line) = IsOtherForm text (string_bytes line)
GivesForm text (Err (No cause)) = HasNoForm cause text
GivesForm text (Err NoMemory) = Unit {0}
