-- Addresses and scripts.
use Rattle.std.proofs.Common.{◌≡◌, ℕ, ◌<◌, Bool, true, false, not, List, [], ◌∷◌, zero, suc, length, map, Some, None, Option, refl, sym, ◌∙◌, ap, subst, arith}
use Rattle.std.specs.Prelude.{nat_lt, if◌then◌else◌, IsTrue, slice_index, Ok, Err}
use Rattle.std.specs.Char.{is_ascii_graphic, to_ascii_lowercase}
use Rattle.std.specs.List.{list_all}
use Rattle.std.specs.Option.{option_or}
use Rattle.std.specs.Str.{IsUtf8}
use Rattle.std.proofs.lemmas.Bool.{and_parts}
use Rattle.std.proofs.lemmas.Bool.Decides.{nat_tests}
use Rattle.std.proofs.lemmas.Str.{IsUtf8-from_ascii}
use Rattle.cf_address.specs.declared.fault.AddressFault.{AddressFault}
use Rattle.cf_address.specs.declared.fault.AddressFault.TheVariants.{Long, Byte, Mixed}
use Rattle.cf_address.specs.Address.{is_prefix, IsAddressOf}
use Rattle.cf_address.specs.Faults.{is_mixed, data_after, data_fault, address_fault}
use Rattle.cf_address.specs.Scripts.{address_script}
use Rattle.cf_address.specs.Witness.{WitnessProgram, script_of}
use Rattle.hex.specs.Hex.{encode_lower}
use Rattle.cf_address.proofs.AddressLemmas.{taken}
use Rattle.cf_address.proofs.ScriptLemmas.{script_is}
use Rattle.cf_input.specs.Addresses.{regtest, is_address_text, script_unless, script_at, fault_of_bytes, IsFormBy, IsOtherForm}

graphic_below : (b : ℕ) → is_ascii_graphic b ≡ true → b < 128
graphic_below b h = grind (arith, nat_tests)

ascii : (text : List ℕ) → list_all is_ascii_graphic text ≡ true → (i : ℕ) → slice_index text i < 128
ascii [] h i = omega arith
ascii (b ∷ rest) h zero = graphic_below b (and_parts (is_ascii_graphic b) (list_all is_ascii_graphic rest) h).0
ascii (b ∷ rest) h (suc i) = ascii rest (and_parts (is_ascii_graphic b) (list_all is_ascii_graphic rest) h).1 i

not_graphic : (text : List ℕ) → (IsUtf8 text → ⊥) → list_all is_ascii_graphic text ≡ false
not_graphic text refused =
    elim (list_all is_ascii_graphic text) as (λ g. list_all is_ascii_graphic text ≡ g → list_all is_ascii_graphic text ≡ false) [
      | true ↦ λ h. absurd (refused (IsUtf8-from_ascii text (ascii text h)))
      | false ↦ λ h. h
    ] refl

pick : (long : Bool) (later : Option AddressFault) (script : List ℕ) → script_unless (option_or (if long then Some Long else Some Byte) later) script ≡ Err (if long then Long else Byte)
pick true later script = refl
pick false later script = refl

-- bytes that are no text
pub no_text : (text : List ℕ) → (IsUtf8 text → ⊥) → script_at text ≡ Err (fault_of_bytes (length text))
no_text text refused =
    ap (λ g. script_unless (option_or (if nat_lt 90 (length text) then Some Long else if not g then Some Byte else if is_mixed text then Some Mixed else None) (data_fault regtest (data_after regtest (map to_ascii_lowercase text)))) (address_script regtest text)) (not_graphic text refused)
    ∙ pick (nat_lt 90 (length text)) (data_fault regtest (data_after regtest (map to_ascii_lowercase text))) (address_script regtest text)

known : IsTrue (is_prefix regtest)
known = refl

-- an address is read
pub address_read : (text : List ℕ) (program : WitnessProgram) (bytes : List ℕ) → IsAddressOf regtest program text → bytes ≡ script_of program → script_at text ≡ Ok bytes
address_read text program bytes address is =
    ap (λ f. script_unless f (address_script regtest text)) (taken regtest text program known address) ∙ ap Ok (script_is regtest text program known address ∙ sym is)

-- and the other way
pub unless_ok : (found : Option AddressFault) (script bytes : List ℕ) → script_unless found script ≡ Ok bytes → (found ≡ None) × (bytes ≡ script)
unless_ok None script bytes h = (refl, cc)
unless_ok (Some fault) script bytes h = cc

-- the other form of an address
pub form_of_address : (text line bytes : List ℕ) → is_address_text text ≡ true → script_at text ≡ Ok bytes → line ≡ encode_lower bytes → IsOtherForm text line
form_of_address text line bytes is found spelled =
    let parts = unless_ok (address_fault regtest text) (address_script regtest text) bytes found in
    subst (λ b. IsFormBy b text line) (sym is) (record { found = parts.0; spelled = spelled ∙ ap encode_lower parts.1 })
