-- The script that is found from a text is that of its program.
use Rattle.std.proofs.Common.{◌≡◌, ℕ, suc, zero, ◌+◌, ◌-◌, ◌*◌, ◌/◌, ◌^◌, ◌<◌, Bool, true, false, List, [], ◌∷◌, ◌++◌, length, take, drop, map, Some, Option, refl, sym, ◌∙◌, ap, subst, arith, append_assoc, length-append}
use Rattle.std.specs.Prelude.{replicate, IsTrue, if◌then◌else◌}
use Rattle.std.proofs.lemmas.Nat.{pow_pos}
use Rattle.std.proofs.lemmas.List.{take_at, drop_at}
use Rattle.cf_bytes.specs.Bits.{bits_of}
use Rattle.cf_address.specs.Bits.{all_bits, AreBelow, AreFivesOf}
use Rattle.cf_address.specs.Alphabet.{letter_of}
use Rattle.cf_address.specs.Witness.{WitnessProgram, IsProgram, script_of}
use Rattle.cf_address.specs.Address.{is_prefix, IsAddressOf}
use Rattle.cf_address.specs.Faults.{data_after}
use Rattle.cf_address.specs.Scripts.{number_of_bits, bytes_of_bits, script_of_values, script_of_letters, address_script}
use Rattle.cf_address.proofs.AlphabetLemmas.{values_of_letters}
use Rattle.cf_bytes.proofs.Bits.{length-bits_of, bits_cat}
use Rattle.cf_address.proofs.BitLemmas.{join_fits, same_number, fives_pass}
use Rattle.cf_address.proofs.AddressLemmas.{lower_is, values_below, letters_stand, data_again}

digit_below : (b : Bool) → (if b then 1 else 0) < 2 ^ 1
digit_below true = omega arith
digit_below false = omega arith

number_below : (bits : List Bool) → number_of_bits bits < 2 ^ length bits
unfolding number_of_bits
number_below [] = pow_pos 0
number_below (b ∷ bits) =
    let all : (if b then 1 else 0) * 2 ^ length bits + number_of_bits bits < 2 ^ (1 + length bits) = join_fits 1 (length bits) (if b then 1 else 0) (number_of_bits bits) (digit_below b) (number_below bits) in
    let more : 1 + length bits ≡ suc (length bits) = omega arith in
    subst (λ n. (if b then 1 else 0) * 2 ^ length bits + number_of_bits bits < 2 ^ n) more all

one_bit : (b : Bool) → bits_of 1 (if b then 1 else 0) ≡ b ∷ []
unfolding bits_of
one_bit true = refl
one_bit false = refl

-- the bits of the number that bits are
bits_again : (bits : List Bool) → bits_of (length bits) (number_of_bits bits) ≡ bits
unfolding number_of_bits bits_of
bits_again [] = refl
bits_again (b ∷ bits) =
    let more : suc (length bits) ≡ 1 + length bits = omega arith in
    ap (λ n. bits_of n ((if b then 1 else 0) * 2 ^ length bits + number_of_bits bits)) more
    ∙ bits_cat 1 (length bits) (if b then 1 else 0) (number_of_bits bits) (number_below bits)
    ∙ (λ i. one_bit b i ++ bits_again bits i)

byte_again : (b : ℕ) → b < 2 ^ 8 → number_of_bits (bits_of 8 b) ≡ b
byte_again b lt =
    let size : length (bits_of 8 b) ≡ 8 = length-bits_of 8 b in
    let small : number_of_bits (bits_of 8 b) < 2 ^ 8 = subst (λ n. number_of_bits (bits_of 8 b) < 2 ^ n) size (number_below (bits_of 8 b)) in
    let same : bits_of 8 (number_of_bits (bits_of 8 b)) ≡ bits_of 8 b = subst (λ n. bits_of n (number_of_bits (bits_of 8 b)) ≡ bits_of 8 b) size (bits_again (bits_of 8 b)) in
    same_number 8 (number_of_bits (bits_of 8 b)) b small lt same

bytes_again : (bytes : List ℕ) (rest : List Bool) → AreBelow 256 bytes → bytes_of_bits (length bytes) (all_bits 8 bytes ++ rest) ≡ bytes
unfolding bytes_of_bits
bytes_again [] rest below = refl
bytes_again (b ∷ bytes) rest below =
    let here : b < 2 ^ 8 = below 0 0 (omega arith) in
    let order : (bits_of 8 b ++ all_bits 8 bytes) ++ rest ≡ bits_of 8 b ++ (all_bits 8 bytes ++ rest) = append_assoc (bits_of 8 b) (all_bits 8 bytes) rest in
    let first : take 8 (bits_of 8 b ++ (all_bits 8 bytes ++ rest)) ≡ bits_of 8 b = take_at (bits_of 8 b) (all_bits 8 bytes ++ rest) 8 (length-bits_of 8 b) in
    let others : drop 8 (bits_of 8 b ++ (all_bits 8 bytes ++ rest)) ≡ all_bits 8 bytes ++ rest = drop_at (bits_of 8 b) (all_bits 8 bytes ++ rest) 8 (length-bits_of 8 b) in
    let head : number_of_bits (take 8 (bits_of 8 b ++ (all_bits 8 bytes ++ rest))) ≡ b = ap number_of_bits first ∙ byte_again b here in
    let tail : bytes_of_bits (length bytes) (drop 8 (bits_of 8 b ++ (all_bits 8 bytes ++ rest))) ≡ bytes =
    ap (bytes_of_bits (length bytes)) others ∙ bytes_again bytes rest (λ k d lt. below (suc k) d (omega arith)) in
    ap (bytes_of_bits (suc (length bytes))) order ∙ (λ i. head i ∷ tail i)

values_script : (program : WitnessProgram) (fives check : List ℕ) → IsProgram program → AreFivesOf program.bytes fives → length check ≡ 6 → script_of_values (program.version ∷ (fives ++ check)) ≡ script_of program
values_script program fives check is padded six =
    let count : length (fives ++ check) ≡ length fives + 6 = length-append fives check ∙ ap (λ n. length fives + n) six in
    let front : take (suc (length (fives ++ check)) - 7) (fives ++ check) ≡ fives = take_at fives check (suc (length (fives ++ check)) - 7) (omega arith) in
    let passed = fives_pass program.bytes fives padded in
    let bytes : bytes_of_bits (length (all_bits 5 fives) / 8) (all_bits 5 fives) ≡ program.bytes =
    ap (λ n. bytes_of_bits n (all_bits 5 fives)) passed.1 ∙ ap (bytes_of_bits (length program.bytes)) padded.same ∙ bytes_again program.bytes (replicate padded.zeros false) is.bytes in
    ap (λ f. script_of (record { version = program.version; bytes = bytes_of_bits (length (all_bits 5 f) / 8) (all_bits 5 f) })) front
    ∙ ap (λ b. script_of (record { version = program.version; bytes = b })) bytes

pub script_is : (prefix text : List ℕ) (program : WitnessProgram) → IsTrue (is_prefix prefix) → IsAddressOf prefix program text → address_script prefix text ≡ script_of program
script_is prefix text program known address =
    let values : List ℕ = address.values in
    let v = address.values_are in
    let below : AreBelow 32 values = values_below prefix program values address.program_is v in
    ap (λ t. script_of_letters (data_after prefix t)) (lower_is prefix text program known address)
    ∙ ap script_of_letters (data_again prefix (map letter_of values) (letters_stand values below))
    ∙ ap script_of_values (values_of_letters values below)
    ∙ ap script_of_values v.whole
    ∙ values_script program v.fives v.check address.program_is v.padded v.six
