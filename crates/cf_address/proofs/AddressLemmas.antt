-- Texts and their values.
use Rattle.std.proofs.Common.{◌≡◌, ℕ, suc, ◌+◌, ◌-◌, ◌*◌, ◌<◌, ◌≤◌, Bool, true, false, List, [], ◌∷◌, ◌++◌, length, take, drop, map, get_or, Some, None, Ok, Err, Option, Result, ◌⊎◌, inl, inr, refl, sym, ◌∙◌, ap, subst, arith}
use Rattle.std.specs.Prelude.{◌==◌, ◌&&◌, ◌||◌, nat_lt, nat_le, not, bit_xor, IsTrue, if◌then◌else◌}
use Rattle.std.specs.List.{list_all, list_any}
use Rattle.std.specs.Option.{option_or}
use Rattle.std.proofs.lemmas.Str.Ascii.{lowercase-uppercase}
use Rattle.std.specs.Char.{is_ascii_graphic, is_ascii_uppercase, is_ascii_lowercase, to_ascii_lowercase, to_ascii_uppercase}
use Rattle.std.proofs.lemmas.Bool.{eqb-true, eq-eqb, and_parts, and_from, and_left, and_right, or_parts, or_from, le-ltb, ltb-false, ltb-true, leb-true}
use Rattle.std.proofs.lemmas.List.{at_drop_more, take-append-drop, append_assoc, append_cancel_left, length-append, length-drop, length-map, take_at, map-append}
use Rattle.std.proofs.lemmas.List.Folds.{list_any-append, list_all-append}
use Rattle.std.proofs.lemmas.List.Elements.{All-drop, All-tail, All-cons, All-append}
use Rattle.cf_bytes.specs.declared.memory.Refused.{Refused}
use Rattle.cf_bytes.specs.declared.memory.Refused.TheVariants.{No, NoMemory}
use Rattle.cf_address.specs.declared.fault.AddressFault.{AddressFault}
use Rattle.cf_address.specs.declared.fault.AddressFault.TheVariants.{Long, Byte, Mixed, Digit, Version, Checksum, Padding, Length}
use Rattle.cf_address.specs.Bits.{all_bits, AreBelow, AreFivesOf}
use Rattle.cf_address.specs.Alphabet.{letter_of, value_of, is_letter}
use Rattle.cf_address.specs.Checksum.{remainder_from, bech32_checksum, checksum_for}
use Rattle.cf_address.specs.Witness.{WitnessProgram, IsProgram, is_length, opcode_of, script_of}
use Rattle.cf_address.specs.Address.{is_prefix, AreValuesOf, address_with, IsAddressOf}
use Rattle.cf_address.specs.Faults.{is_mixed, data_after, bits_fault, values_fault, data_fault, text_fault, address_fault, Reads}
use Rattle.cf_address.specs.Steps.{GivesProgram, number_of}
use Rattle.cf_address.proofs.AlphabetLemmas.{Stands, Stands-letter, Stands-small, one_stands, lower-fixed, upper-lower-fixed, letters_of_values, values_of_letters, letters_are}
use Rattle.cf_address.proofs.BitLemmas.{length_of_fives, one_list_of_bytes, one_list_of_fives, fives_pass}
use Rattle.cf_address.proofs.ChecksumLemmas.{one_check, made_right}

-- nothing is left of a text, and some of the prefix
pub nothing_after : (prefix rest : List ℕ) (i : ℕ) (total : Option (List ℕ)) → i < length prefix → length rest < 1 → data_after (drop i prefix) rest ≡ total → total ≡ None
nothing_after prefix [] i total lt short h = sym h ∙ at_drop_more (λ s. data_after s []) prefix i 0 lt
nothing_after prefix (c ∷ rest) i total lt short h = absurd (omega arith)

-- ---- the values of a program

whole_values : (prefix bytes : List ℕ) (version v : ℕ) (vs : List ℕ) → 6 ≤ length vs → AreBelow 32 vs → version ≡ v → AreFivesOf bytes (take (length vs - 6) vs) → bech32_checksum prefix (v ∷ vs) ≡ checksum_for version
    → AreValuesOf prefix (record { version = version; bytes = bytes }) (v ∷ vs)
whole_values prefix bytes version v vs long below is padded right = record {
  fives = take (length vs - 6) vs;
  check = drop (length vs - 6) vs;
  whole = λ i. sym is i ∷ sym (take-append-drop (length vs - 6) vs) i;
  padded = padded;
  six = length-drop (length vs - 6) vs ∙ omega arith;
  small = All-drop (λ n. n < 32) (length vs - 6) vs below;
  right = right;
}

pub values_made : (prefix values bytes : List ℕ) (version : ℕ) (program : WitnessProgram) → 7 ≤ length values → AreBelow 32 values → version ≡ get_or values 0 0 → program ≡ record { version = version; bytes = bytes }
    → AreFivesOf bytes (take (length values - 6 - 1) (drop 1 values)) → bech32_checksum prefix values ≡ checksum_for version → AreValuesOf prefix program values
values_made prefix [] bytes version program long below is whole padded right = absurd (omega arith)
values_made prefix (v ∷ vs) bytes version program long below is whole padded right =
    let count : suc (length vs) - 6 - 1 ≡ length vs - 6 = omega arith in
    let fives : AreFivesOf bytes (take (length vs - 6) vs) = subst (λ k. AreFivesOf bytes (take k vs)) count padded in
    subst (λ p. AreValuesOf prefix p (v ∷ vs)) (sym whole) (whole_values prefix bytes version v vs (omega arith) (All-tail (λ n. n < 32) v vs below) is fives right)

-- ---- the text of an address

-- a list in which no byte is a capital, or none a small letter
no_capitals : (text : List ℕ) → list_any is_ascii_uppercase text ≡ false → map to_ascii_lowercase text ≡ text
no_capitals [] h = refl
no_capitals (c ∷ text) h =
    let parts = or_parts (is_ascii_uppercase c) (list_any is_ascii_uppercase text) h in
    λ i. lower-fixed c parts.0 i ∷ no_capitals text parts.1 i

no_smalls : (text : List ℕ) → list_any is_ascii_lowercase text ≡ false → map to_ascii_uppercase (map to_ascii_lowercase text) ≡ text
no_smalls [] h = refl
no_smalls (c ∷ text) h =
    let parts = or_parts (is_ascii_lowercase c) (list_any is_ascii_lowercase text) h in
    λ i. upper-lower-fixed c parts.0 i ∷ no_smalls text parts.1 i

one_case : (text : List ℕ) → is_mixed text ≡ false → (text ≡ map to_ascii_lowercase text) ⊎ (text ≡ map to_ascii_uppercase (map to_ascii_lowercase text))
one_case text h = at (list_any is_ascii_lowercase text) refl
  where
    at : (b : Bool) → list_any is_ascii_lowercase text ≡ b → (text ≡ map to_ascii_lowercase text) ⊎ (text ≡ map to_ascii_uppercase (map to_ascii_lowercase text))
    at true is = inl (sym (no_capitals text (ap (λ b. b && list_any is_ascii_uppercase text) (sym is) ∙ h)))
    at false is = inr (sym (no_smalls text is))

text_tests : (a b c : Bool) → ◌≡◌ {A = Option AddressFault} (if a then Some Long else if not b then Some Byte else if c then Some Mixed else None) None → (a ≡ false) × (c ≡ false)
text_tests true b c h = cc
text_tests false false c h = cc
text_tests false true true h = cc
text_tests false true false h = (refl, refl)

text_passes : (text : List ℕ) → text_fault text ≡ None → (length text ≤ 90) × (is_mixed text ≡ false)
text_passes text h =
    let parts = text_tests (nat_lt 90 (length text)) (list_all is_ascii_graphic text) (is_mixed text) h in
    (ltb-false 90 (length text) parts.0, parts.1)

data_is : (prefix text rest : List ℕ) → data_after prefix text ≡ Some rest → text ≡ prefix ++ 49 ∷ rest
data_is [] [] rest h = cc
data_is [] (c ∷ text) rest h = at (c == 49) (not (list_any (λ b. b == 49) text)) refl h
  where
    at : (a b : Bool) → (c == 49) ≡ a → ◌≡◌ {A = Option (List ℕ)} (if a && b then Some text else None) (Some rest) → c ∷ text ≡ 49 ∷ rest
    at true true is h = let same : text ≡ rest = cc in λ i. eqb-true c 49 is i ∷ same i
    at true false is h = cc
    at false b is h = cc
data_is (p ∷ prefix) [] rest h = cc
data_is (p ∷ prefix) (c ∷ text) rest h = at (c == p) refl h (data_is prefix text rest)
  where
    at : (a : Bool) → (c == p) ≡ a → ◌≡◌ {A = Option (List ℕ)} (if a then data_after prefix text else None) (Some rest) → (data_after prefix text ≡ Some rest → text ≡ prefix ++ 49 ∷ rest) → c ∷ text ≡ (p ∷ prefix) ++ 49 ∷ rest
    at true is h below = λ i. eqb-true c p is i ∷ below h i
    at false is h below = cc

-- what reading the values gives is what reading the text gives
pub read_made : (prefix text letters values : List ℕ) (result : Result WitnessProgram (Refused AddressFault)) → text_fault text ≡ None → data_after prefix (map to_ascii_lowercase text) ≡ Some letters
    → list_all is_letter letters ≡ true → values ≡ map value_of letters → GivesProgram prefix values result → Reads prefix text result
read_made prefix text letters values (Ok program) passes after are is gives =
    let parts = text_passes text passes in
    let spelled : letters ≡ map letter_of values = sym (ap (map letter_of) is ∙ letters_of_values letters are) in
    let lower : map to_ascii_lowercase text ≡ address_with prefix values = data_is prefix (map to_ascii_lowercase text) letters after ∙ ap (λ s. prefix ++ 49 ∷ s) spelled in
    record {
      program_is = gives.0;
      values = values;
      values_are = gives.1;
      spelled = elim (one_case text parts.1) [ inl same ↦ inl (same ∙ lower) | inr same ↦ inr (same ∙ ap (map to_ascii_uppercase) lower) ];
      few = parts.0;
    }
read_made prefix text letters values (Err (No fault)) passes after are is gives =
    let tests : data_fault prefix (Some letters) ≡ values_fault prefix values = ap (λ b. if not b then Some Digit else values_fault prefix (map value_of letters)) are ∙ ap (values_fault prefix) (sym is) in
    (λ i. option_or (passes i) (data_fault prefix (after i))) ∙ tests ∙ gives
read_made prefix text letters values (Err NoMemory) passes after are is gives = tt

-- ---- an address is read

prefix_parts : (prefix : List ℕ) → IsTrue (is_prefix prefix) → (0 < length prefix) × (length prefix ≤ 10) × (list_all is_ascii_lowercase prefix ≡ true)
prefix_parts prefix h =
    let a = and_parts (nat_lt 0 (length prefix) && nat_le (length prefix) 10) (list_all is_ascii_lowercase prefix) h in
    let b = and_parts (nat_lt 0 (length prefix)) (nat_le (length prefix) 10) a.0 in
    (ltb-true 0 (length prefix) b.0, leb-true (length prefix) 10 b.1, a.1)

-- facts of each byte of the prefix and of each letter
pub AllStand : List ℕ → Type 0
AllStand [] = Unit {0}
AllStand (c ∷ cs) = Stands c × AllStand cs

prefix_stands : (prefix : List ℕ) → list_all is_ascii_lowercase prefix ≡ true → AllStand prefix
unfolding AllStand
prefix_stands [] h = tt
prefix_stands (c ∷ prefix) h = let parts = and_parts (is_ascii_lowercase c) (list_all is_ascii_lowercase prefix) h in (Stands-small c parts.0, prefix_stands prefix parts.1)

pub letters_stand : (vs : List ℕ) → AreBelow 32 vs → AllStand (map letter_of vs)
unfolding AllStand
letters_stand [] below = tt
letters_stand (v ∷ vs) below = (Stands-letter v (below 0 0 (omega arith)), letters_stand vs (λ k d lt. below (suc k) d (omega arith)))

-- of a list that stands, and of one between which and another a `1` stands
lower_same : (cs : List ℕ) → AllStand cs → map to_ascii_lowercase cs ≡ cs
unfolding AllStand
lower_same [] h = refl
lower_same (c ∷ cs) h = λ i. h.0.small i ∷ lower_same cs h.1 i

lower_address : (prefix letters : List ℕ) → AllStand prefix → AllStand letters → map to_ascii_lowercase (prefix ++ 49 ∷ letters) ≡ prefix ++ 49 ∷ letters
lower_address prefix letters p l =
    map-append to_ascii_lowercase prefix (49 ∷ letters) ∙ (λ i. lower_same prefix p i ++ one_stands.0 i ∷ lower_same letters l i)

lower-upper_same : (cs : List ℕ) → AllStand cs → map to_ascii_lowercase (map to_ascii_uppercase cs) ≡ cs
unfolding AllStand
lower-upper_same [] h = refl
lower-upper_same (c ∷ cs) h = λ i. (lowercase-uppercase c ∙ h.0.small) i ∷ lower-upper_same cs h.1 i

lower-upper_address : (prefix letters : List ℕ) → AllStand prefix → AllStand letters → map to_ascii_lowercase (map to_ascii_uppercase (prefix ++ 49 ∷ letters)) ≡ prefix ++ 49 ∷ letters
lower-upper_address prefix letters p l =
    ap (map to_ascii_lowercase) (map-append to_ascii_uppercase prefix (49 ∷ letters)) ∙ map-append to_ascii_lowercase (map to_ascii_uppercase prefix) (map to_ascii_uppercase (49 ∷ letters))
    ∙ (λ i. lower-upper_same prefix p i ++ (ap to_ascii_lowercase one_stands.2 ∙ one_stands.0) i ∷ lower-upper_same letters l i)

-- a test that each byte passes, or none
all_pass : (f : ℕ → Bool) (cs : List ℕ) → ((c : ℕ) → Stands c → f c ≡ true) → AllStand cs → list_all f cs ≡ true
unfolding AllStand
all_pass f [] each h = refl
all_pass f (c ∷ cs) each h = and_from (f c) (list_all f cs) (each c h.0) (all_pass f cs each h.1)

none_passes : (f : ℕ → Bool) (cs : List ℕ) → ((c : ℕ) → Stands c → f c ≡ false) → AllStand cs → list_any f cs ≡ false
unfolding AllStand
none_passes f [] each h = refl
none_passes f (c ∷ cs) each h = or_from (f c) (list_any f cs) (each c h.0) (none_passes f cs each h.1)

-- the same through a map
all_pass_upper : (f : ℕ → Bool) (cs : List ℕ) → ((c : ℕ) → Stands c → f (to_ascii_uppercase c) ≡ true) → AllStand cs → list_all f (map to_ascii_uppercase cs) ≡ true
unfolding AllStand
all_pass_upper f [] each h = refl
all_pass_upper f (c ∷ cs) each h = and_from (f (to_ascii_uppercase c)) (list_all f (map to_ascii_uppercase cs)) (each c h.0) (all_pass_upper f cs each h.1)

none_passes_upper : (f : ℕ → Bool) (cs : List ℕ) → ((c : ℕ) → Stands c → f (to_ascii_uppercase c) ≡ false) → AllStand cs → list_any f (map to_ascii_uppercase cs) ≡ false
unfolding AllStand
none_passes_upper f [] each h = refl
none_passes_upper f (c ∷ cs) each h = or_from (f (to_ascii_uppercase c)) (list_any f (map to_ascii_uppercase cs)) (each c h.0) (none_passes_upper f cs each h.1)

whole_graphic : (prefix letters : List ℕ) → AllStand prefix → AllStand letters → list_all is_ascii_graphic (prefix ++ 49 ∷ letters) ≡ true
whole_graphic prefix letters p l =
    list_all-append is_ascii_graphic prefix (49 ∷ letters)
    ∙ and_from (list_all is_ascii_graphic prefix) (list_all is_ascii_graphic (49 ∷ letters)) (all_pass is_ascii_graphic prefix (λ c h. h.graphic) p)
    (and_from (is_ascii_graphic 49) (list_all is_ascii_graphic letters) one_stands.1 (all_pass is_ascii_graphic letters (λ c h. h.graphic) l))

whole_graphic_upper : (prefix letters : List ℕ) → AllStand prefix → AllStand letters → list_all is_ascii_graphic (map to_ascii_uppercase (prefix ++ 49 ∷ letters)) ≡ true
whole_graphic_upper prefix letters p l =
    ap (list_all is_ascii_graphic) (map-append to_ascii_uppercase prefix (49 ∷ letters))
    ∙ list_all-append is_ascii_graphic (map to_ascii_uppercase prefix) (map to_ascii_uppercase (49 ∷ letters))
    ∙ and_from (list_all is_ascii_graphic (map to_ascii_uppercase prefix)) (list_all is_ascii_graphic (map to_ascii_uppercase (49 ∷ letters))) (all_pass_upper is_ascii_graphic prefix (λ c h. h.upper_graphic) p)
    (and_from (is_ascii_graphic (to_ascii_uppercase 49)) (list_all is_ascii_graphic (map to_ascii_uppercase letters)) (ap is_ascii_graphic one_stands.2 ∙ one_stands.1) (all_pass_upper is_ascii_graphic letters (λ c h. h.upper_graphic) l))

not_mixed : (prefix letters : List ℕ) → AllStand prefix → AllStand letters → is_mixed (prefix ++ 49 ∷ letters) ≡ false
not_mixed prefix letters p l =
    and_right (list_any is_ascii_lowercase (prefix ++ 49 ∷ letters)) (list_any is_ascii_uppercase (prefix ++ 49 ∷ letters))
    (list_any-append is_ascii_uppercase prefix (49 ∷ letters)
    ∙ or_from (list_any is_ascii_uppercase prefix) (list_any is_ascii_uppercase (49 ∷ letters)) (none_passes is_ascii_uppercase prefix (λ c h. h.no_capital) p)
    (or_from (is_ascii_uppercase 49) (list_any is_ascii_uppercase letters) one_stands.3 (none_passes is_ascii_uppercase letters (λ c h. h.no_capital) l)))

not_mixed_upper : (prefix letters : List ℕ) → AllStand prefix → AllStand letters → is_mixed (map to_ascii_uppercase (prefix ++ 49 ∷ letters)) ≡ false
not_mixed_upper prefix letters p l =
    and_left (list_any is_ascii_lowercase (map to_ascii_uppercase (prefix ++ 49 ∷ letters))) (list_any is_ascii_uppercase (map to_ascii_uppercase (prefix ++ 49 ∷ letters)))
    (ap (list_any is_ascii_lowercase) (map-append to_ascii_uppercase prefix (49 ∷ letters))
    ∙ list_any-append is_ascii_lowercase (map to_ascii_uppercase prefix) (map to_ascii_uppercase (49 ∷ letters))
    ∙ or_from (list_any is_ascii_lowercase (map to_ascii_uppercase prefix)) (list_any is_ascii_lowercase (map to_ascii_uppercase (49 ∷ letters))) (none_passes_upper is_ascii_lowercase prefix (λ c h. h.no_small) p)
    (or_from (is_ascii_lowercase (to_ascii_uppercase 49)) (list_any is_ascii_lowercase (map to_ascii_uppercase letters)) (ap is_ascii_lowercase one_stands.2 ∙ one_stands.4) (none_passes_upper is_ascii_lowercase letters (λ c h. h.no_small) l)))

text_fine : (text : List ℕ) → length text ≤ 90 → list_all is_ascii_graphic text ≡ true → is_mixed text ≡ false → text_fault text ≡ None
text_fine text few graphic unmixed =
    (λ i. if le-ltb 90 (length text) few i then Some Long else if not (graphic i) then Some Byte else if unmixed i then Some Mixed else None)

pub data_again : (prefix letters : List ℕ) → AllStand letters → data_after prefix (prefix ++ 49 ∷ letters) ≡ Some letters
data_again [] letters l = ap (λ b. if not b then Some letters else None) (none_passes (λ b. b == 49) letters (λ c h. h.no_one) l)
data_again (p ∷ prefix) letters l = ap (λ b. if b then data_after prefix (prefix ++ 49 ∷ letters) else None) (eq-eqb p p refl) ∙ data_again prefix letters l

-- the values of an address have no fault
pub values_below : (prefix : List ℕ) (program : WitnessProgram) (values : List ℕ) → IsProgram program → AreValuesOf prefix program values → AreBelow 32 values
values_below prefix program values is v =
    let version : program.version ≤ 16 = is.version in
    rw v.whole (All-cons (λ n. n < 32) program.version (v.fives ++ v.check) (omega arith) (All-append (λ n. n < 32) v.fives v.check v.padded.small v.small))

values_fine : (prefix : List ℕ) (program : WitnessProgram) (fives check : List ℕ) → IsProgram program → AreFivesOf program.bytes fives → length check ≡ 6 → bech32_checksum prefix (program.version ∷ (fives ++ check)) ≡ checksum_for program.version
    → values_fault prefix (program.version ∷ (fives ++ check)) ≡ None
values_fine prefix program fives check is padded six right =
    let version : program.version ≤ 16 = is.version in
    let count : length (fives ++ check) ≡ length fives + 6 = length-append fives check ∙ ap (λ n. length fives + n) six in
    let short : nat_lt (suc (length (fives ++ check))) 7 ≡ false = le-ltb (suc (length (fives ++ check))) 7 (omega arith) in
    let known : nat_lt 16 program.version ≡ false = le-ltb 16 program.version version in
    let checked : (bech32_checksum prefix (program.version ∷ (fives ++ check)) == checksum_for program.version) ≡ true = eq-eqb _ _ right in
    let front : take (suc (length (fives ++ check)) - 7) (fives ++ check) ≡ fives = take_at fives check (suc (length (fives ++ check)) - 7) (omega arith) in
    let passed = fives_pass program.bytes fives padded in
    (λ i. if short i || known i then Some Version else if not (checked i) then Some Checksum else bits_fault program.version (all_bits 5 (front i)))
    ∙ (λ i. if passed.0 i then Some Padding else if not (is_length program.version (passed.1 i)) then Some Length else None)
    ∙ ap (λ b. if not b then Some Length else None) is.sized

address_values : (prefix : List ℕ) (program : WitnessProgram) (values : List ℕ) → IsProgram program → AreValuesOf prefix program values → values_fault prefix values ≡ None
address_values prefix program values is v = ap (values_fault prefix) v.whole ∙ values_fine prefix program v.fives v.check is v.padded v.six (ap (bech32_checksum prefix) (sym v.whole) ∙ v.right)

plain_fine : (prefix : List ℕ) (program : WitnessProgram) (values text : List ℕ) → IsProgram program → AreValuesOf prefix program values → text_fault text ≡ None → map to_ascii_lowercase text ≡ address_with prefix values → AllStand (map letter_of values) → address_fault prefix text ≡ None
plain_fine prefix program values text is v fine lower stand =
    let below : AreBelow 32 values = values_below prefix program values is v in
    let after : data_after prefix (map to_ascii_lowercase text) ≡ Some (map letter_of values) = ap (data_after prefix) lower ∙ data_again prefix (map letter_of values) stand in
    (λ i. option_or (fine i) (data_fault prefix (after i)))
    ∙ ap (λ b. if not b then Some Digit else values_fault prefix (map value_of (map letter_of values))) (letters_are values below)
    ∙ ap (values_fault prefix) (values_of_letters values below)
    ∙ address_values prefix program values is v

-- each address is taken
pub taken : (prefix text : List ℕ) (program : WitnessProgram) → IsTrue (is_prefix prefix) → IsAddressOf prefix program text → address_fault prefix text ≡ None
taken prefix text program known address =
    let values : List ℕ = address.values in
    let p : AllStand prefix = prefix_stands prefix (prefix_parts prefix known).2 in
    let l : AllStand (map letter_of values) = letters_stand values (values_below prefix program values address.program_is address.values_are) in
    elim address.spelled [
      | inl same ↦ plain_fine prefix program values text address.program_is address.values_are
          (text_fine text address.few (ap (list_all is_ascii_graphic) same ∙ whole_graphic prefix (map letter_of values) p l) (ap is_mixed same ∙ not_mixed prefix (map letter_of values) p l))
          (ap (map to_ascii_lowercase) same ∙ lower_address prefix (map letter_of values) p l) l
      | inr same ↦ plain_fine prefix program values text address.program_is address.values_are
          (text_fine text address.few (ap (list_all is_ascii_graphic) same ∙ whole_graphic_upper prefix (map letter_of values) p l) (ap is_mixed same ∙ not_mixed_upper prefix (map letter_of values) p l))
          (ap (map to_ascii_lowercase) same ∙ lower-upper_address prefix (map letter_of values) p l) l
    ]

-- the lower-case text of an address
pub lower_is : (prefix text : List ℕ) (program : WitnessProgram) → IsTrue (is_prefix prefix) → (address : IsAddressOf prefix program text) → map to_ascii_lowercase text ≡ address_with prefix address.values
lower_is prefix text program known address =
    let values : List ℕ = address.values in
    let p : AllStand prefix = prefix_stands prefix (prefix_parts prefix known).2 in
    let l : AllStand (map letter_of values) = letters_stand values (values_below prefix program values address.program_is address.values_are) in
    elim address.spelled [
      | inl same ↦ ap (map to_ascii_lowercase) same ∙ lower_address prefix (map letter_of values) p l
      | inr same ↦ ap (map to_ascii_lowercase) same ∙ lower-upper_address prefix (map letter_of values) p l
    ]

same_program : (p q : WitnessProgram) → p.version ≡ q.version → p.bytes ≡ q.bytes → p ≡ q
same_program p q v b = λ i. record { version = v i; bytes = b i }

cons_parts : (a b : ℕ) (s t : List ℕ) → a ∷ s ≡ b ∷ t → (a ≡ b) × (s ≡ t)
cons_parts a b s t h = (cc, cc)

split_same : (a b s t : List ℕ) → a ++ s ≡ b ++ t → length s ≡ 6 → length t ≡ 6 → a ≡ b
split_same a b s t h six_s six_t =
    let count : length a + 6 ≡ length b + 6 = ap (λ n. length a + n) (sym six_s) ∙ sym (length-append a s) ∙ ap length h ∙ length-append b t ∙ ap (λ n. length b + n) six_t in
    let same : length a ≡ length b = omega arith in
    sym (take_at a s (length a) refl) ∙ ap (take (length a)) h ∙ take_at b t (length a) (sym same)

program_of_values : (prefix values : List ℕ) (p q : WitnessProgram) → IsProgram p → IsProgram q → AreValuesOf prefix p values → AreValuesOf prefix q values → p ≡ q
program_of_values prefix values p q is_p is_q vp vq =
    let parts = cons_parts p.version q.version (vp.fives ++ vp.check) (vq.fives ++ vq.check) (sym vp.whole ∙ vq.whole) in
    let fives : vp.fives ≡ vq.fives = split_same vp.fives vq.fives vp.check vq.check parts.1 vp.six vq.six in
    same_program p q parts.0 (one_list_of_bytes p.bytes q.bytes vq.fives is_p.bytes is_q.bytes (subst (AreFivesOf p.bytes) fives vp.padded) vq.padded)

-- a text is the address of one program
pub one_program : (prefix text : List ℕ) (p q : WitnessProgram) → IsTrue (is_prefix prefix) → IsAddressOf prefix p text → IsAddressOf prefix q text → p ≡ q
one_program prefix text p q known a b =
    let whole : address_with prefix a.values ≡ address_with prefix b.values = sym (lower_is prefix text p known a) ∙ lower_is prefix text q known b in
    let letters : map letter_of a.values ≡ map letter_of b.values = (cons_parts 49 49 _ _ (append_cancel_left prefix (49 ∷ map letter_of a.values) (49 ∷ map letter_of b.values) whole)).1 in
    let values : a.values ≡ b.values = sym (values_of_letters a.values (values_below prefix p a.values a.program_is a.values_are)) ∙ ap (map value_of) letters ∙ values_of_letters b.values (values_below prefix q b.values b.program_is b.values_are) in
    program_of_values prefix b.values p q a.program_is b.program_is (subst (AreValuesOf prefix p) values a.values_are) b.values_are

-- reading an address gives its program
pub again : (prefix text : List ℕ) (p : WitnessProgram) (result : Result WitnessProgram (Refused AddressFault)) → IsTrue (is_prefix prefix) → IsAddressOf prefix p text → Reads prefix text result → (result ≡ Ok p) ⊎ (result ≡ Err NoMemory)
again prefix text p (Ok q) known address reads = inl (ap Ok (one_program prefix text q p known reads address))
again prefix text p (Err (No fault)) known address reads = absurd (some_fault fault (sym (taken prefix text p known address) ∙ reads))
  where
    some_fault : (fault : AddressFault) → ◌≡◌ {A = Option AddressFault} None (Some fault) → ⊥
    some_fault fault h = cc
again prefix text p (Err NoMemory) known address reads = inr refl

-- the values of a program are the only ones
one_list_of_values : (prefix v w : List ℕ) (p : WitnessProgram) → AreValuesOf prefix p v → AreValuesOf prefix p w → v ≡ w
one_list_of_values prefix v w p vp wp =
    let fives : vp.fives ≡ wp.fives = one_list_of_fives p.bytes vp.fives wp.fives vp.padded wp.padded in
    let right_v : bech32_checksum prefix ((p.version ∷ wp.fives) ++ vp.check) ≡ checksum_for p.version = ap (λ f. bech32_checksum prefix (p.version ∷ (f ++ vp.check))) (sym fives) ∙ ap (bech32_checksum prefix) (sym vp.whole) ∙ vp.right in
    let right_w : bech32_checksum prefix ((p.version ∷ wp.fives) ++ wp.check) ≡ checksum_for p.version = ap (bech32_checksum prefix) (sym wp.whole) ∙ wp.right in
    let check : vp.check ≡ wp.check = one_check prefix (p.version ∷ wp.fives) vp.check wp.check (checksum_for p.version) vp.six wp.six vp.small wp.small right_v right_w in
    vp.whole ∙ (λ i. p.version ∷ (fives i ++ check i)) ∙ sym wp.whole

same_case : (prefix s t : List ℕ) (p q : WitnessProgram) → IsTrue (is_prefix prefix) → IsAddressOf prefix p s → IsAddressOf prefix q t → p ≡ q → map to_ascii_lowercase s ≡ map to_ascii_lowercase t
same_case prefix s t p q known a b same =
    let vb : AreValuesOf prefix p b.values = subst (λ r. AreValuesOf prefix r b.values) (sym same) b.values_are in
    lower_is prefix s p known a ∙ ap (address_with prefix) (one_list_of_values prefix a.values b.values p a.values_are vb) ∙ sym (lower_is prefix t q known b)

-- ---- scripts

opcode_same : (v w : ℕ) → opcode_of v ≡ opcode_of w → v ≡ w
opcode_same v w h = at (v == 0) (w == 0) refl refl h
  where
    at : (a b : Bool) → (v == 0) ≡ a → (w == 0) ≡ b → (if a then 0 else 0x50 + v) ≡ (if b then 0 else 0x50 + w) → v ≡ w
    at true true is_a is_b h = eqb-true v 0 is_a ∙ sym (eqb-true w 0 is_b)
    at true false is_a is_b h = absurd (omega arith)
    at false true is_a is_b h = absurd (omega arith)
    at false false is_a is_b h = omega arith

-- two programs have two scripts
pub one_script : (p q : WitnessProgram) → script_of p ≡ script_of q → p ≡ q
one_script p q h =
    let first = cons_parts (opcode_of p.version) (opcode_of q.version) (length p.bytes ∷ p.bytes) (length q.bytes ∷ q.bytes) h in
    let second = cons_parts (length p.bytes) (length q.bytes) p.bytes q.bytes first.1 in
    same_program p q (opcode_same p.version q.version first.0) second.1

-- texts that are taken for one script differ in case alone
pub case_alone : (prefix s t : List ℕ) (p q : WitnessProgram) → IsTrue (is_prefix prefix) → IsAddressOf prefix p s → IsAddressOf prefix q t → script_of p ≡ script_of q → map to_ascii_lowercase s ≡ map to_ascii_lowercase t
case_alone prefix s t p q known a b h = same_case prefix s t p q known a b (one_script p q h)

-- ---- writing

few_bytes : (prefix values text : List ℕ) (program : WitnessProgram) → IsTrue (is_prefix prefix) → IsProgram program → AreValuesOf prefix program values → text ≡ address_with prefix values → length text ≤ 90
few_bytes prefix values text program known is v spelled =
    let short : length prefix ≤ 10 = (prefix_parts prefix known).1 in
    let bytes : length program.bytes ≤ 40 = at_most (program.version == 0) (length program.bytes) is.sized in
    let fives : 5 * length v.fives ≡ 8 * length program.bytes + v.padded.zeros = length_of_fives program.bytes v.fives v.padded in
    let zeros : v.padded.zeros < 5 = v.padded.few in
    let six : length v.check ≡ 6 = v.six in
    let count : length values ≡ suc (length v.fives + length v.check) = ap length v.whole ∙ ap suc (length-append v.fives v.check) in
    let whole : length text ≡ length prefix + suc (length values) = ap length spelled ∙ length-append prefix (49 ∷ map letter_of values) ∙ ap (λ n. length prefix + suc n) (length-map values letter_of) in
    omega arith
  where
    or_most : (a b : Bool) (n : ℕ) → (n == 20) ≡ a → (n == 32) ≡ b → (a || b) ≡ true → n ≤ 40
    or_most true b n is_a is_b h = omega (arith, eqb-true n 20 is_a)
    or_most false true n is_a is_b h = omega (arith, eqb-true n 32 is_b)
    or_most false false n is_a is_b h = cc

    at_most : (b : Bool) (n : ℕ) → (if b then n == 20 || n == 32 else nat_le 2 n && nat_le n 40) ≡ true → n ≤ 40
    at_most true n h = or_most (n == 20) (n == 32) n refl refl h
    at_most false n h = leb-true n 40 (and_parts (nat_le 2 n) (nat_le n 40) h).1

-- the whole text is an address, in lower case
pub written : (prefix values text : List ℕ) (program : WitnessProgram) → IsTrue (is_prefix prefix) → IsProgram program → AreValuesOf prefix program values → text ≡ address_with prefix values → IsAddressOf prefix program text
written prefix values text program known is v spelled = record {
  program_is = is;
  values = values;
  values_are = v;
  spelled = inl spelled;
  few = few_bytes prefix values text program known is v spelled;
}

pub written_lower : (prefix values text : List ℕ) (program : WitnessProgram) → IsTrue (is_prefix prefix) → IsProgram program → AreValuesOf prefix program values → text ≡ address_with prefix values → map to_ascii_lowercase text ≡ text
unfolding written
written_lower prefix values text program known is v spelled = lower_is prefix text program known (written prefix values text program known is v spelled) ∙ sym spelled

-- the values that are written
pub values_written : (prefix : List ℕ) (program : WitnessProgram) (fives check front values : List ℕ) (version now goal : ℕ) → version ≡ program.version → AreFivesOf program.bytes fives → length check ≡ 6 → AreBelow 32 check
    → front ≡ program.version ∷ fives → values ≡ front ++ check → now ≡ remainder_from (bech32_checksum prefix front) (0 ∷ 0 ∷ 0 ∷ 0 ∷ 0 ∷ 0 ∷ []) → goal ≡ checksum_for program.version → number_of check ≡ bit_xor now goal → AreValuesOf prefix program values
values_written prefix program fives check front values version now goal is padded six below front_is values_is now_is goal_is number = record {
  fives = fives;
  check = check;
  whole = values_is ∙ ap (λ s. s ++ check) front_is;
  padded = padded;
  six = six;
  small = below;
  right = ap (bech32_checksum prefix) values_is ∙ made_right prefix front check now goal six below now_is number ∙ goal_is;
}

-- the text that is written
pub joined : (prefix start with_one text values : List ℕ) → start ≡ prefix → with_one ≡ start ++ 49 ∷ [] → text ≡ with_one ++ map letter_of values → text ≡ address_with prefix values
joined prefix start with_one text values is one whole =
    whole ∙ ap (λ s. s ++ map letter_of values) (one ∙ ap (λ s. s ++ 49 ∷ []) is) ∙ append_assoc prefix (49 ∷ []) (map letter_of values)
