-- A watch file of scripts in hexadecimal names those scripts.
use Rattle.std.proofs.Common.{◌≡◌, ℕ, zero, suc, ◌/◌, ◌%◌, ◌<◌, List, [], ◌∷◌, ◌++◌, map, Option, Some, None, Result, Ok, Bool, true, false, ◌&&◌, ◌||◌, ◌==◌, if◌then◌else◌, refl, sym, ap, ◌∙◌, append_assoc, arith, eqb-true}
use Rattle.std.proofs.lemmas.Bool.{false_from_ne_true}
use Rattle.std.proofs.lemmas.List.{append-nil}
use Rattle.std.specs.List.{AllByRecursion}
use Rattle.std.specs.Prelude.{slice_index, take}
use Rattle.std.specs.Result.{result_ok}
use Rattle.std.specs.Str.{bytes_eq}
use Rattle.hex.specs.Hex.{encode_lower, encode_with, lower_digits, hex_digit_value}
use Rattle.hex.proofs.HexLemmas.{IsDigits-lower_digits, decode_of-encode_lower}
use Rattle.cf_bytes.specs.Cut.{IsBytes, ◌>>=◌}
use Rattle.cf_scan.specs.Watching.{watch_kind_of}
use Rattle.cf_scan.specs.declared.watch.WatchKind.{WatchKind}
use Rattle.cf_input.specs.Addresses.{is_address_text, script_at}
use Rattle.cf_input.specs.LineLaws.{IsLine, AreLines, ended}
use Rattle.cf_input.specs.Lines.{lines_of, read_lines, bytes_of_hex}
use Rattle.cf_input.specs.WatchFile.{watch_of, watched_after, named_after, by_address, by_digits, script_in_line, script_after}
use Rattle.cf_input.specs.declared.watch_file.WatchFileFault.{WatchFileFault}
use Rattle.cf_input.proofs.LineLawLemmas.{lines_again}
use Rattle.cf_plain.specs.Plain.{watch_lines}

-- ---- digits

-- a digit isn't a byte that has no value in hexadecimal
no_digit : (n c : ℕ) → n < 16 → hex_digit_value c ≡ None → (slice_index lower_digits n == c) ≡ false
no_digit n c small none = false_from_ne_true (slice_index lower_digits n == c) (λ same.
    let is : slice_index lower_digits n ≡ c = eqb-true (slice_index lower_digits n) c same in
    let clash : Some n ≡ None = sym (IsDigits-lower_digits n small) ∙ ap hex_digit_value is ∙ none in cc)

byte_high : (b : ℕ) → b < 256 → b / 16 < 16
byte_high b small = omega (arith, small)

byte_low : (b : ℕ) → b % 16 < 16
byte_low b = omega arith

encoded_line : (script : List ℕ) → IsBytes script → IsLine (encode_lower script)
unfolding encode_with
encoded_line [] are = refl
encoded_line (b ∷ script) are =
    rw (no_digit (b / 16) 10 (byte_high b (are zero)) refl, no_digit (b % 16) 10 (byte_low b) refl)
    (encoded_line script (λ i. are (suc i)))

encoded_lines : (scripts : List (List ℕ)) → AllByRecursion IsBytes scripts → AreLines (map encode_lower scripts)
encoded_lines [] are = tt
encoded_lines (script ∷ scripts) are = (encoded_line script are.0, encoded_lines scripts are.1)

-- an `r`, which stands in each address and is no digit
third_r : (a b c d : ℕ) (text : List ℕ) → (c == 114) ≡ false → (c == 82) ≡ false
    → is_address_text (a ∷ b ∷ c ∷ d ∷ text) ≡ false
third_r a b c d text small large =
    by_first (a == 98) (b == 99) (a == 66) (b == 67) (c == 114) (c == 82) (d == 116) (d == 84)
    (bytes_eq (take 1 text) (49 ∷ [])) (bytes_eq (take 1 text) (49 ∷ [])) small large where
      by_first : (p q r s t u v w x y : Bool) → t ≡ false → u ≡ false
          → ((p && (q && (t && (v && x)))) || (r && (s && (u && (w && y))))) ≡ false
      by_first false q false s t u v w x y et eu = refl
      by_first false q true false t u v w x y et eu = refl
      by_first false q true true t u v w x y et eu = ap (λ b. b && (w && y)) eu
      by_first true false false s t u v w x y et eu = refl
      by_first true false true false t u v w x y et eu = refl
      by_first true false true true t u v w x y et eu = ap (λ b. b && (w && y)) eu
      by_first true true false s t u v w x y et eu = ap (λ b. (b && (v && x)) || false) et
      by_first true true true false t u v w x y et eu = ap (λ b. (b && (v && x)) || false) et
      by_first true true true true t u v w x y et eu =
          ap (λ b. (b && (v && x)) || (u && (w && y))) et ∙ ap (λ b. b && (w && y)) eu

short_no : (p q r s : Bool) → ((p && (q && false)) || (r && (s && false))) ≡ false
short_no false q false s = refl
short_no false q true false = refl
short_no false q true true = refl
short_no true false false s = refl
short_no true false true false = refl
short_no true false true true = refl
short_no true true false s = refl
short_no true true true false = refl
short_no true true true true = refl

no_address : (script : List ℕ) → IsBytes script → is_address_text (encode_lower script) ≡ false
unfolding encode_with
no_address [] are = refl
no_address (b ∷ []) are =
    short_no (slice_index lower_digits (b / 16) == 98) (slice_index lower_digits (b % 16) == 99)
    (slice_index lower_digits (b / 16) == 66) (slice_index lower_digits (b % 16) == 67)
no_address (b ∷ c ∷ script) are =
    third_r (slice_index lower_digits (b / 16)) (slice_index lower_digits (b % 16)) (slice_index lower_digits (c / 16))
    (slice_index lower_digits (c % 16))
    (encode_lower script) (no_digit (c / 16) 114 (byte_high c (are (suc zero))) refl)
    (no_digit (c / 16) 82 (byte_high c (are (suc zero))) refl)

-- ---- lines

script_again : (script : List ℕ) → IsBytes script → script_in_line (encode_lower script) ≡ Ok script
script_again script are =
    ap (λ b. if b then by_address (script_at (encode_lower script)) else by_digits (bytes_of_hex (encode_lower script)))
    (no_address script are)
    ∙ ap (λ r. by_digits (result_ok r)) (decode_of-encode_lower script are)

same_ok : (a b : List (List ℕ)) (r : Result (List (List ℕ)) WatchFileFault) → r ≡ Ok a → r ≡ Ok b → b ≡ a
same_ok a b r one two = (let both : Ok a ≡ Ok b = sym one ∙ two in cc)

lines_read : (before scripts found : List (List ℕ)) → AllByRecursion IsBytes scripts
    → read_lines script_after before (map encode_lower scripts) ≡ Ok found → found ≡ before ++ scripts
unfolding read_lines
lines_read before [] found are is = same_ok before found (Ok before) refl is ∙ sym (append-nil before)
lines_read before (script ∷ scripts) found are is =
    by_kind (watch_kind_of before script) (ap (named_after before) (script_again script are.0))
    (lines_read (before ++ script ∷ []) scripts found are.1) where
      by_kind : (o : Option WatchKind) → script_after before (encode_lower script) ≡ watched_after before script o
          → (read_lines script_after (before ++ script ∷ []) (map encode_lower scripts) ≡ Ok found
          → found ≡ (before ++ script ∷ []) ++ scripts)
          → found ≡ before ++ script ∷ scripts
      by_kind None e next =
          next (sym (ap (λ r. r >>= λ after. read_lines script_after after (map encode_lower scripts)) e) ∙ is)
          ∙ append_assoc before (script ∷ []) scripts
      by_kind (Some kind) e next =
          absurd (let clash = sym (ap (λ r. r >>= λ after. read_lines script_after after (map encode_lower scripts)) e)
          ∙ is in cc)

-- the scripts of a watch file of these scripts are these
pub watch_again : (scripts found : List (List ℕ)) → AllByRecursion IsBytes scripts
    → watch_of (watch_lines scripts) ≡ Ok found → found ≡ scripts
watch_again scripts found are is =
    let lines : lines_of (watch_lines scripts) ≡ map encode_lower scripts =
    ap lines_of (sym (append-nil (ended (map encode_lower scripts))))
    ∙ lines_again (map encode_lower scripts) [] (encoded_lines scripts are) refl
    ∙ append-nil (map encode_lower scripts) in
    lines_read [] scripts found are (ap (read_lines script_after []) (sym lines) ∙ is)
