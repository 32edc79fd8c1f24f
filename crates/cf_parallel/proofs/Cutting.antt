-- The parts of a list, one after another, are the list.
use Rattle.std.proofs.Common.{◌≡◌, ◌<◌, ◌≤◌, ◌+◌, ◌*◌, ◌/◌, ◌-◌, ℕ, zero, suc, List, [], ◌∷◌, ◌++◌, length, map, take, drop, slice_range, All, mod-lt, add-one, refl, sym, ap, ◌∙◌, arith}
use Rattle.std.proofs.Math.Seq.{take-add}
use Rattle.std.proofs.Math.Nat.{div-add-mod, suc-mul}
use Rattle.std.proofs.lemmas.List.{map-append, append-nil, append_assoc, take_all, length-append, length-take, length-drop}
use Rattle.std.proofs.lemmas.List.Elements.{All-append, All-cons, All-nil}
use Rattle.cf_parallel.specs.Parts.{place_of, part_of, first_parts, in_parts, joined}

-- the next part begins no earlier
pub place_mono : (n w k : ℕ) → place_of n w k ≤ place_of n w (k + 1)
place_mono n w k = let m : (k + 1) * (n / w) ≡ k * (n / w) + n / w = ap (λ j. j * (n / w)) (add-one k) ∙ suc-mul k (n / w) in omega (arith, m)

-- the last one ends with the list
pub place_last : (n w : ℕ) → 0 < w → place_of n w w ≡ n
place_last n w h = let d = div-add-mod n w in let m = mod-lt n h in omega (arith, d, m)

take_part : {X : Type 0} (a b : ℕ) (xs : List X) → a ≤ b → take a xs ++ slice_range xs a b ≡ take b xs
take_part a b xs l = sym (take-add a (b - a) xs) ∙ ap (λ n. take n xs) (omega (arith, l))

joined_more : {X : Type 0} (parts : List (List X)) (p : List X) → joined (parts ++ p ∷ []) ≡ joined parts ++ p
joined_more [] p = append-nil p
joined_more (x ∷ parts) p = ap (λ l. x ++ l) (joined_more parts p) ∙ sym (append_assoc x (joined parts) p)

joined_first : {X : Type 0} (w k : ℕ) (xs : List X) → joined (first_parts w xs k) ≡ take (place_of (length xs) w k) xs
joined_first w zero xs = let none : 0 ≡ place_of (length xs) w 0 = omega arith in ap (λ n. take n xs) none
joined_first w (suc k) xs =
    joined_more (first_parts w xs k) (part_of w xs k)
    ∙ ap (λ l. l ++ part_of w xs k) (joined_first w k xs)
    ∙ take_part (place_of (length xs) w k) (place_of (length xs) w (k + 1)) xs (place_mono (length xs) w k)
    ∙ ap (λ j. take (place_of (length xs) w j) xs) (add-one k)

pub joined_parts : {X : Type 0} (w : ℕ) (xs : List X) → 0 < w → joined (in_parts w xs) ≡ xs
joined_parts w xs h = joined_first w w xs ∙ ap (λ n. take n xs) (place_last (length xs) w h) ∙ take_all (length xs) xs (omega arith)

joined_map : {X Y : Type 0} (f : X → Y) (parts : List (List X)) → joined (map (map f) parts) ≡ map f (joined parts)
joined_map f [] = refl
joined_map f (x ∷ parts) = ap (λ l. map f x ++ l) (joined_map f parts) ∙ sym (map-append f x (joined parts))

-- what is found of each part is, one after another, what is found of the list
pub judged_parts : {X Y : Type 0} (f : X → Y) (w : ℕ) (xs : List X) → 0 < w → joined (map (map f) (in_parts w xs)) ≡ map f xs
judged_parts f w xs h = joined_map f (in_parts w xs) ∙ ap (map f) (joined_parts w xs h)

-- one part more
pub one_part_more : {V X Y : Type 0} (of : V → List Y) (f : X → Y) (w k : ℕ) (xs : List X) (before after : List V) (v : V)
    → map of before ≡ map (map f) (first_parts w xs k) → after ≡ before ++ v ∷ [] → of v ≡ map f (part_of w xs k) → map of after ≡ map (map f) (first_parts w xs (k + 1))
one_part_more of f w k xs before after v b a h =
    ap (map of) a ∙ map-append of before (v ∷ [])
    ∙ ap (λ l. l ++ of v ∷ []) b ∙ ap (λ u. map (map f) (first_parts w xs k) ++ u ∷ []) h
    ∙ sym (map-append (map f) (first_parts w xs k) (part_of w xs k ∷ []))
    ∙ ap (λ j. map (map f) (first_parts w xs j)) (sym (add-one k))

-- there are as many parts as asked for
pub parts_count : {X : Type 0} (w k : ℕ) (xs : List X) → length (first_parts w xs k) ≡ k
parts_count w zero xs = refl
parts_count w (suc k) xs = let more = length-append (first_parts w xs k) (part_of w xs k ∷ []) in let before = parts_count w k xs in omega (arith, more, before)

place_up : (n w k d : ℕ) → place_of n w k ≤ place_of n w (k + d)
place_up n w k zero = let same : place_of n w (k + 0) ≡ place_of n w k = ap (place_of n w) (omega arith) in omega (arith, same)
place_up n w k (suc d) =
    let before = place_up n w k d in
    let next = place_mono n w (k + d) in
    let same : place_of n w (k + suc d) ≡ place_of n w (k + d + 1) = ap (place_of n w) (omega arith) in
    omega (arith, before, next, same)

place_within : (n w k : ℕ) → 0 < w → k ≤ w → place_of n w k ≤ n
place_within n w k some low =
    let up = place_up n w k (w - k) in
    let same : place_of n w (k + (w - k)) ≡ place_of n w w = ap (place_of n w) (omega (arith, low)) in
    let last = place_last n w some in
    omega (arith, up, same, last)

part_long : {X : Type 0} (w k : ℕ) (xs : List X) → 0 < w → k < w → (length xs / w ≤ length (part_of w xs k)) × (length (part_of w xs k) ≤ length xs / w + 1)
part_long w k xs some low =
    let n : ℕ = length xs in
    let a : ℕ = place_of n w k in
    let b : ℕ = place_of n w (k + 1) in
    let within : b ≤ n = place_within n w (k + 1) some (omega (arith, low)) in
    let left = length-drop a xs in
    let taken = length-take (b - a) (drop a xs) in
    let up = place_mono n w k in
    let long : length (part_of w xs k) ≡ b - a = omega (arith, left, taken, within, up) in
    let m : (k + 1) * (n / w) ≡ k * (n / w) + n / w = ap (λ j. j * (n / w)) (add-one k) ∙ suc-mul k (n / w) in
    (omega (arith, long, m), omega (arith, long, m))

-- no length is more than one above another
pub parts_even : {X : Type 0} (w k : ℕ) (xs : List X) → 0 < w → k ≤ w → All (λ p. (length xs / w ≤ length p) × (length p ≤ length xs / w + 1)) (first_parts w xs k)
parts_even {X} w zero xs some low = All-nil (λ (p : List X). (length xs / w ≤ length p) × (length p ≤ length xs / w + 1))
parts_even {X} w (suc k) xs some low =
    let P : List X → Type 0 = λ p. (length xs / w ≤ length p) × (length p ≤ length xs / w + 1) in
    All-append P (first_parts w xs k) (part_of w xs k ∷ []) (parts_even w k xs some (omega (arith, low))) (All-cons P (part_of w xs k) [] (part_long w k xs some (omega (arith, low))) (All-nil P))
