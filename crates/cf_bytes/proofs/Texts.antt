-- Looking for a name.
use Rattle.std.proofs.Common.{◌≡◌, ℕ, List, ◌∷◌, map, Some, Bool, true, false, refl, sym, ◌∙◌, String, Vec, string_bytes}
use Rattle.std.specs.Global.{Global}
use Rattle.std.specs.Str.{bytes_eq}
use Rattle.std.specs.Ordering.{nat_cmp}
use Rattle.std.specs.Cmp.Lexicographic.{slice_cmp}
use Rattle.std.specs.FinMap as finite
use Rattle.std.proofs.lemmas.Map.Text.{is_eq-slice_cmp}
use Rattle.std.proofs.lemmas.Slice.Eq.{bytes_eq-Decides}
use Rattle.cf_bytes.specs.Files.{entry_of}

not_both : (a b : Bool) → b ≡ false → (a ≡ true → b ≡ true) → a ≡ false
not_both true b h k = sym (k refl) ∙ h
not_both false b h k = refl

same_other_way : (xs ys : List ℕ) (b : Bool) → bytes_eq xs ys ≡ b → bytes_eq ys xs ≡ b
same_other_way xs ys true h = (bytes_eq-Decides ys xs).1 (sym ((bytes_eq-Decides xs ys).0 h))
same_other_way xs ys false h = not_both (bytes_eq ys xs) (bytes_eq xs ys) h (λ e. (bytes_eq-Decides xs ys).1 (sym ((bytes_eq-Decides ys xs).0 e)))

pub found_text : (name : List ℕ) (e : String Global × Vec ℕ Global) (es : List (String Global × Vec ℕ Global)) → bytes_eq (string_bytes e.0) name ≡ true
    → finite.find (slice_cmp nat_cmp) name (map entry_of (e ∷ es)) ≡ Some e.1.items
found_text name e es h = rw (is_eq-slice_cmp name (string_bytes e.0), same_other_way (string_bytes e.0) name true h) refl

pub other_text : (name : List ℕ) (e : String Global × Vec ℕ Global) (es : List (String Global × Vec ℕ Global)) → bytes_eq (string_bytes e.0) name ≡ false
    → finite.find (slice_cmp nat_cmp) name (map entry_of (e ∷ es)) ≡ finite.find (slice_cmp nat_cmp) name (map entry_of es)
other_text name e es h = rw (is_eq-slice_cmp name (string_bytes e.0), same_other_way (string_bytes e.0) name false h) refl
