-- Lists that are walked along.
use Rattle.std.proofs.Common.{◌≡◌, ℕ, zero, suc, ◌+◌, ◌-◌, ◌≤◌, List, [], ◌∷◌, ◌++◌, length, map, take, drop, Option, Some, None, Result, Ok, Err, refl, sym, ap, ◌∙◌, arith, slice_get, append_assoc}
use Rattle.std.specs.Prelude.{option_map, OnErr}
use Rattle.std.specs.List.{flat_map, range_with_len}
use Rattle.std.specs.Option.{option_to_list}
use Rattle.std.proofs.lemmas.List.{take-append-drop, take_at, map-append, map_push}
use Rattle.std.proofs.lemmas.List.Concat.{flat_map-append}
use Rattle.std.proofs.lemmas.Option.{slice_get-map}
use Rattle.cf_block.specs.declared.header.Header.{Header}
use Rattle.cf_block.specs.declared.tx.Block.{Block}

-- what holds in any case holds of an error
pub on_err : {X E : Type 0} (P : Type 0) (r : Result X E) → P → OnErr r P
on_err P (Ok x) p = tt
on_err P (Err e) p = p

-- ---- a locator

-- ---- lists that are put at the end

pub flat_begun : {X Y : Type 0} (f : X → List Y) (xs : List X) (i : ℕ) (old out : List Y) → out ≡ old ++ flat_map f (take i xs) → (n : ℕ) × (out ≡ old ++ take n (flat_map f xs))
flat_begun f xs i old out so_far =
    let front = flat_map f (take i xs) in
    let split : flat_map f xs ≡ front ++ flat_map f (drop i xs) = ap (flat_map f) (sym (take-append-drop i xs)) ∙ flat_map-append f (take i xs) (drop i xs) in
    let same : take (length front) (flat_map f xs) ≡ front = ap (take (length front)) split ∙ take_at front (flat_map f (drop i xs)) (length front) refl in
    (length front, so_far ∙ ap (λ ys. old ++ ys) (sym same))

range-push : (start n : ℕ) → range_with_len start (n + 1) ≡ range_with_len start n ++ (start + n) ∷ []
range-push start zero = let same : start ≡ start + 0 = omega arith in ap (λ (k : ℕ). k ∷ []) same
range-push start (suc n) =
    let more : suc n + 1 ≡ suc (n + 1) = omega arith in
    let same : (start + 1) + n ≡ start + suc n = omega arith in
    ap (range_with_len start) more ∙ ap (λ (ks : List ℕ). start ∷ ks) (range-push (start + 1) n ∙ ap (λ k. range_with_len (start + 1) n ++ k ∷ []) same)

pub range_on : {Y : Type 0} (f : ℕ → Y) (start height : ℕ) (old out new : List Y) → start ≤ height → out ≡ old ++ map f (range_with_len start (height - start)) → new ≡ out ++ f height ∷ []
    → new ≡ old ++ map f (range_with_len start ((height + 1) - start))
range_on f start height old out new le so_far more =
    let n = height - start in
    let count : (height + 1) - start ≡ n + 1 = omega arith in
    let at : start + n ≡ height = omega arith in
    let one : map f (range_with_len start ((height + 1) - start)) ≡ map f (range_with_len start n) ++ f height ∷ [] =
    ap (λ k. map f (range_with_len start k)) count ∙ ap (map f) (range-push start n) ∙ map_push f (range_with_len start n) (start + n) ∙ ap (λ k. map f (range_with_len start n) ++ f k ∷ []) at in
    more ∙ ap (λ ys. ys ++ f height ∷ []) so_far ∙ append_assoc old (map f (range_with_len start n)) (f height ∷ []) ∙ ap (λ ys. old ++ ys) (sym one)

take-range : {Y : Type 0} (f : ℕ → Y) (start n m : ℕ) → n ≤ m → take n (map f (range_with_len start m)) ≡ map f (range_with_len start n)
take-range f start zero m le = refl
take-range f start (suc n) zero le = absurd (omega arith)
take-range {Y} f start (suc n) (suc m) le = ap (λ (ys : List Y). f start ∷ ys) (take-range f (start + 1) n m (omega arith))

pub range_begun : {Y : Type 0} (f : ℕ → Y) (start n m : ℕ) (old out : List Y) → n ≤ m → out ≡ old ++ map f (range_with_len start n) → (k : ℕ) × (out ≡ old ++ take k (map f (range_with_len start m)))
range_begun f start n m old out le so_far = (n, so_far ∙ ap (λ ys. old ++ ys) (sym (take-range f start n m le)))

-- ---- parts of a list, of which each place may be asked for

one_taken : {X : Type 0} (xs : List X) (start i : ℕ) → take (i + 1) (drop start xs) ≡ take i (drop start xs) ++ option_to_list (slice_get xs (start + i))
one_taken [] zero zero = refl
one_taken [] zero (suc i) = let more : suc i + 1 ≡ suc (i + 1) = omega arith in ap (λ n. take n []) more
one_taken [] (suc start) zero = refl
one_taken [] (suc start) (suc i) = let more : suc i + 1 ≡ suc (i + 1) = omega arith in ap (λ n. take n []) more
one_taken (x ∷ xs) zero zero = refl
one_taken {X} (x ∷ xs) zero (suc i) =
    let more : suc i + 1 ≡ suc (i + 1) = omega arith in
    let at : 0 + suc i ≡ suc (0 + i) = omega arith in
    rw (more, at) (ap (λ (ys : List X). x ∷ ys) (one_taken xs zero i))
one_taken (x ∷ xs) (suc start) i =
    let at : suc start + i ≡ suc (start + i) = omega arith in
    one_taken xs start i ∙ ap (λ k. take i (drop start xs) ++ option_to_list (slice_get (x ∷ xs) k)) (sym at)

map-option : {X Y : Type 0} (f : X → Y) (o : Option X) → map f (option_to_list o) ≡ option_to_list (option_map f o)
map-option f None = refl
map-option f (Some x) = refl

pub taken_on : {X Y : Type 0} (f : X → Y) (xs : List X) (start i : ℕ) (o : Option Y) (out new : List Y) → o ≡ option_map f (slice_get xs (start + i)) → out ≡ map f (take i (drop start xs)) → new ≡ out ++ option_to_list o
    → new ≡ map f (take (i + 1) (drop start xs))
taken_on f xs start i o out new is so_far more =
    let one : map f (option_to_list (slice_get xs (start + i))) ≡ option_to_list o = map-option f (slice_get xs (start + i)) ∙ ap option_to_list (sym is) in
    more ∙ ap (λ ys. ys ++ option_to_list o) so_far ∙ ap (λ ys. map f (take i (drop start xs)) ++ ys) (sym one)
    ∙ sym (map-append f (take i (drop start xs)) (option_to_list (slice_get xs (start + i)))) ∙ ap (map f) (sym (one_taken xs start i))

pub taken_header : (blocks : List Block) (start i : ℕ) (o : Option Header) (out new : List Header) → o ≡ option_map (λ b. b.header) (slice_get blocks (start + i)) → out ≡ take i (drop start (map (λ b. b.header) blocks))
    → new ≡ out ++ option_to_list o → new ≡ take (i + 1) (drop start (map (λ b. b.header) blocks))
taken_header blocks start i o out new is so_far more =
    more ∙ ap (λ ys. ys ++ option_to_list o) so_far
    ∙ ap (λ p. take i (drop start (map (λ b. b.header) blocks)) ++ option_to_list p) (is ∙ sym (slice_get-map (λ (b : Block). b.header) blocks (start + i)))
    ∙ sym (one_taken (map (λ b. b.header) blocks) start i)

-- ---- every thousandth
