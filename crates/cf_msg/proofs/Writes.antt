-- Writing items one after another, as a loop does.
use Rattle.cf_bytes.specs.declared.memory.NoMemory.{NoMemory}
use Rattle.std.specs.Prelude.{OnOk}
use Rattle.std.proofs.Common.{Result, Ok, Err, ◌≡◌, ℕ, ◌+◌, ◌≤◌, ◌<◌, List, ◌∷◌, ◌++◌, length, drop, get_or, sym, ap, ◌∙◌, append_assoc, drop-cons, add-one}
use Rattle.std.proofs.lemmas.List.{append-nil, drop_all}
use Rattle.std.specs.List.{flat_map}

-- one item more
pub writes_on : {X : Type 0} (spell : X → List ℕ) (xs : List X) (i : ℕ) (x : X) (out new total : List ℕ) → i < length xs → x ≡ get_or xs i x
    → out ++ flat_map spell (drop i xs) ≡ total → new ≡ out ++ spell x → new ++ flat_map spell (drop (i + 1) xs) ≡ total
writes_on {X} spell xs i x out new total lt is so_far e =
    let split : drop i xs ≡ get_or xs i x ∷ drop (i + 1) xs = rw add-one (drop-cons xs i x lt) in
    let rest = flat_map spell (drop (i + 1) xs) in
    ap (λ t. t ++ rest) e ∙ append_assoc out (spell x) rest ∙ ap (λ (y : X). out ++ (spell y ++ rest)) is ∙ ap (λ (ys : List X). out ++ flat_map spell ys) (sym split) ∙ so_far

-- all items are written
pub all_written : {X : Type 0} (spell : X → List ℕ) (xs : List X) (i : ℕ) (out total : List ℕ) → length xs ≤ i → out ++ flat_map spell (drop i xs) ≡ total → out ≡ total
all_written {X} spell xs i out total le so_far =
    sym (append-nil out) ∙ ap (λ (ys : List X). out ++ flat_map spell ys) (sym (drop_all i xs le)) ∙ so_far

-- parts that were written one after another
pub joined_3 : (r : Result (Unit {0}) NoMemory) (old a b c s1 s2 s3 : List ℕ) → s1 ≡ old ++ a → s2 ≡ s1 ++ b → OnOk r (s3 ≡ s2 ++ c) → OnOk r (s3 ≡ old ++ (a ++ (b ++ c)))
joined_3 (Ok u) old a b c s1 s2 s3 e1 e2 e3 =
    let all : ((old ++ a) ++ b) ++ c ≡ old ++ (a ++ (b ++ c)) = simp append_assoc in
    e3 ∙ ap (λ t. t ++ c) (e2 ∙ ap (λ t. t ++ b) e1) ∙ all
joined_3 (Err e) old a b c s1 s2 s3 e1 e2 e3 = tt

pub joined_9 : (r : Result (Unit {0}) NoMemory) (old a b c d e f g h i s1 s2 s3 : List ℕ)
    → s1 ≡ old ++ (a ++ (b ++ c)) → s2 ≡ s1 ++ (d ++ (e ++ f)) → OnOk r (s3 ≡ s2 ++ (g ++ (h ++ i)))
    → OnOk r (s3 ≡ old ++ (a ++ (b ++ (c ++ (d ++ (e ++ (f ++ (g ++ (h ++ i)))))))))
joined_9 (Ok u) old a b c d e f g h i s1 s2 s3 e1 e2 e3 =
    let all : ((old ++ (a ++ (b ++ c))) ++ (d ++ (e ++ f))) ++ (g ++ (h ++ i)) ≡ old ++ (a ++ (b ++ (c ++ (d ++ (e ++ (f ++ (g ++ (h ++ i)))))))) = simp append_assoc in
    e3 ∙ ap (λ t. t ++ (g ++ (h ++ i))) (e2 ∙ ap (λ t. t ++ (d ++ (e ++ f))) e1) ∙ all
joined_9 (Err x) old a b c d e f g h i s1 s2 s3 e1 e2 e3 = tt
