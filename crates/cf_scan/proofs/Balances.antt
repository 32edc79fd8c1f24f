-- The balance after the last entry.
use Rattle.std.proofs.Common.{◌≡◌, ℕ, ◌-◌, zero, List, [], ◌∷◌, length, refl, ◌∙◌, ap, Option, Some, None, arith}
use Rattle.std.specs.Prelude.{slice_get}
use Rattle.cf_scan.specs.declared.history.Entry.{Entry}
use Rattle.cf_scan.specs.Scan.{balance_of}

abbrev balance_in : Option Entry → ℕ
balance_in (Some e) = e.balance
balance_in None = zero

of_last : (e : Entry) (es : List Entry) → balance_in (slice_get (e ∷ es) (length es)) ≡ balance_of (e ∷ es)
of_last e [] = refl
of_last e (f ∷ es) = of_last f es

pub balance_last : (es : List Entry) (e : Entry) → Some e ≡ slice_get es (length es - 1) → e.balance ≡ balance_of es
balance_last [] e is = cc
balance_last (f ∷ es) e is =
    let before : length (f ∷ es) - 1 ≡ length es = omega arith in
    ap balance_in (is ∙ ap (slice_get (f ∷ es)) before) ∙ of_last f es
