-- Names are texts.
use Rattle.std.proofs.Common.{◌≡◌, ℕ, ◌<◌, true, List, [], ◌∷◌, zero, suc, refl, arith}
use Rattle.std.specs.Prelude.{◌&&◌, nat_lt, nat_le, length, slice_index, Result, Ok, Err, MatchResult, IsOk}
use Rattle.std.specs.List.{list_all}
use Rattle.std.specs.Str.{IsUtf8}
use Rattle.std.proofs.lemmas.Bool.{and_parts}
use Rattle.std.proofs.lemmas.Bool.Decides.{nat_tests}
use Rattle.std.proofs.lemmas.Str.{IsUtf8-from_ascii}
use Rattle.cf_input.specs.Name.{is_printable, is_name}

below : (b : ℕ) → nat_le b 126 ≡ true → b < 128
below b h = grind (arith, nat_tests)

ascii : (text : List ℕ) → list_all is_printable text ≡ true → (i : ℕ) → slice_index text i < 128
ascii [] h i = omega arith
ascii (b ∷ rest) h zero = below b (and_parts (nat_le 33 b) (nat_le b 126) (and_parts (is_printable b) (list_all is_printable rest) h).0).1
ascii (b ∷ rest) h (suc i) = ascii rest (and_parts (is_printable b) (list_all is_printable rest) h).1 i

pub name_is_text : (text : List ℕ) → is_name text ≡ true → IsUtf8 text
name_is_text text h = IsUtf8-from_ascii text (ascii text (and_parts (list_all is_printable text) (nat_lt 0 (length text) && nat_le (length text) 255) h).0)

pub text_is_found : {T E : Type 0} (U : Type 0) (P : T → Type 0) (Q : E → Type 0) (r : Result T E) → MatchResult r P (λ e. (¬ U) × Q e) → U → IsOk r
text_is_found U P Q (Ok x) h u = refl
text_is_found U P Q (Err e) h u = absurd (h.0 u)
