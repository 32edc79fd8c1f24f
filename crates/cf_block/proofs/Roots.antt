-- One root, one list of transactions.
use Rattle.std.proofs.Common.{◌≡◌, ℕ, suc, zero, ◌+◌, ◌*◌, ◌<◌, ◌≤◌, Bool, true, false, List, [], ◌∷◌, ◌++◌, map, length, refl, sym, ◌∙◌, ap, subst, arith, length-append, inl, inr}
use Rattle.std.specs.Prelude.{◌⊎◌, ◌||◌, nat_eq, nat_le, if◌then◌else◌}
use Rattle.std.specs.Cmp.Lexicographic.{pointwise}
use Rattle.std.proofs.lemmas.Bool.{le-leb, lt-leb, leb-true, leb-false}
use Rattle.std.proofs.lemmas.List.{length-map}
use Rattle.cf_bytes.specs.Hash.{hash_of}
use Rattle.sha2.specs.Sha256.{sha256}
use Rattle.std.specs.Cmp.Lexicographic.{nat_list_eq_equiv}
use Rattle.sha2.proofs.Facts256.{length-sha256}
use Rattle.cf_block.specs.Merkle.{joined_pairs, next_level, has_twins, first_of, root_within, merkle_root_of, is_mutated_within, is_mutated, nodes_within, nodes, txids, hashed, Among, NoClash, None64, IsUnmutated}

pub length-hash_of : (b : List ℕ) → length (hash_of b) ≡ 32
unfolding hash_of
length-hash_of b = length-sha256 (sha256 b)

-- all hashes have 32 bytes
abbrev Are32 : List (List ℕ) → Type 0
Are32 [] = Unit {0}
Are32 (a ∷ rest) = (length a ≡ 32) × Are32 rest

hashes_32 : (strings : List (List ℕ)) → Are32 (map hash_of strings)
hashes_32 [] = tt
hashes_32 (s ∷ rest) = (length-hash_of s, hashes_32 rest)

-- all strings are among these
abbrev AllAmong : List (List ℕ) → List (List ℕ) → Type 0
AllAmong strings [] = Unit {0}
AllAmong strings (s ∷ rest) = Among strings s × AllAmong strings rest

-- joined lists of the same length are equal by parts
parts_equal : (a b a' b' : List ℕ) → length a ≡ length a' → a ++ b ≡ a' ++ b' → (a ≡ a') × (b ≡ b')
parts_equal [] b [] b' len h = (refl, h)
parts_equal [] b (y ∷ ys) b' len h = absurd (omega arith)
parts_equal (x ∷ xs) b [] b' len h = absurd (omega arith)
parts_equal (x ∷ xs) b (y ∷ ys) b' len h =
    let first : x ≡ y = cc in
    let others : xs ++ b ≡ ys ++ b' = cc in
    let rest = parts_equal xs b ys b' (omega arith) others in
    (λ i. first i ∷ rest.0 i, rest.1)

twins_here : (a b : List ℕ) (rest : List (List ℕ)) → a ≡ b → has_twins (a ∷ b ∷ rest) ≡ false → ⊥
twins_here a b rest is h =
    let same : pointwise nat_eq a b ≡ true = ap (pointwise nat_eq a) (sym is) ∙ nat_list_eq_equiv.refl a in
    true_not_false (sym (ap (λ t. t || has_twins rest) same) ∙ h)
  where
    true_not_false : true ≡ false → ⊥
    true_not_false h = cc

no_twins_later : (a b : List ℕ) (rest : List (List ℕ)) → has_twins (a ∷ b ∷ rest) ≡ false → has_twins rest ≡ false
no_twins_later a b rest h = or_second (pointwise nat_eq a b) (has_twins rest) h
  where
    or_second : (x y : Bool) → (x || y) ≡ false → y ≡ false
    or_second true y h = cc
    or_second false y h = h

len_joined : (l : List (List ℕ)) → (length l ≤ 2 * length (joined_pairs l)) × (2 * length (joined_pairs l) ≤ length l + 1)
len_joined [] = (omega arith, omega arith)
len_joined (a ∷ []) = (omega arith, omega arith)
len_joined (a ∷ b ∷ rest) = let r = len_joined rest in (omega (arith, r.0), omega (arith, r.1))

len_next : (l : List (List ℕ)) → (length l ≤ 2 * length (next_level l)) × (2 * length (next_level l) ≤ length l + 1)
len_next l =
    let same : length (next_level l) ≡ length (joined_pairs l) = length-map (joined_pairs l) hash_of in
    let r = len_joined l in
    (omega (arith, same, r.0), omega (arith, same, r.1))

-- one level is given by the next, where strings don't clash
same_below : (strings : List (List ℕ)) → NoClash strings → (xs ys : List (List ℕ)) → Are32 xs → Are32 ys
    → AllAmong strings (joined_pairs xs) → AllAmong strings (joined_pairs ys) → has_twins xs ≡ false → has_twins ys ≡ false
    → next_level xs ≡ next_level ys → xs ≡ ys
same_below strings apart [] [] lx ly inx iny nx ny h = refl
same_below strings apart [] (b ∷ []) lx ly inx iny nx ny h = cc
same_below strings apart [] (b ∷ b' ∷ ys) lx ly inx iny nx ny h = cc
same_below strings apart (a ∷ []) [] lx ly inx iny nx ny h = cc
same_below strings apart (a ∷ a' ∷ xs) [] lx ly inx iny nx ny h = cc
same_below strings apart (a ∷ []) (b ∷ []) lx ly inx iny nx ny h =
    let hash : hash_of (a ++ a) ≡ hash_of (b ++ b) = cc in
    let parts = parts_equal a a b b (omega (arith, lx.0, ly.0)) (apart _ _ inx.0 iny.0 hash) in
    ap (λ s. s ∷ []) parts.0
same_below strings apart (a ∷ []) (b ∷ b' ∷ ys) lx ly inx iny nx ny h =
    let hash : hash_of (a ++ a) ≡ hash_of (b ++ b') = cc in
    let parts = parts_equal a a b b' (omega (arith, lx.0, ly.0)) (apart _ _ inx.0 iny.0 hash) in
    absurd (twins_here b b' ys (sym parts.0 ∙ parts.1) ny)
same_below strings apart (a ∷ a' ∷ xs) (b ∷ []) lx ly inx iny nx ny h =
    let hash : hash_of (a ++ a') ≡ hash_of (b ++ b) = cc in
    let parts = parts_equal a a' b b (omega (arith, lx.0, ly.0)) (apart _ _ inx.0 iny.0 hash) in
    absurd (twins_here a a' xs (parts.0 ∙ sym parts.1) nx)
same_below strings apart (a ∷ a' ∷ xs) (b ∷ b' ∷ ys) lx ly inx iny nx ny h =
    let hash : hash_of (a ++ a') ≡ hash_of (b ++ b') = cc in
    let others : next_level xs ≡ next_level ys = cc in
    let parts = parts_equal a a' b b' (omega (arith, lx.0, ly.0)) (apart _ _ inx.0 iny.0 hash) in
    let rest = same_below strings apart xs ys lx.1.1 ly.1.1 inx.1 iny.1 (no_twins_later a a' xs nx) (no_twins_later b b' ys ny) others in
    λ i. parts.0 i ∷ parts.1 i ∷ rest i

-- levels above
abbrev level : ℕ → List (List ℕ) → List (List ℕ)
level zero l = l
level (suc k) l = level k (next_level l)

-- no level has twins, and all that is hashed is among the strings
abbrev Clean : List (List ℕ) → List (List ℕ) → Type 0
Clean strings l = (k : ℕ) → 2 ≤ length (level k l) → (has_twins (level k l) ≡ false) × AllAmong strings (joined_pairs (level k l))

-- a list is the level so many levels above another
abbrev Above : ℕ → List (List ℕ) → List (List ℕ) → Type 0
Above zero ys zs = ys ≡ zs
Above (suc k) ys zs = (2 ≤ length ys) × Above k (next_level ys) zs

lower : (strings : List (List ℕ)) → NoClash strings → (k : ℕ) (ys xs : List (List ℕ)) → Are32 ys → Are32 xs → Clean strings ys → Clean strings xs
    → 2 ≤ length ys → 2 ≤ length xs → Above k (next_level ys) (next_level xs) → Above k ys xs
lower strings apart zero ys xs ly lx cy cx ty tx h =
    let y = cy 0 ty in
    let x = cx 0 tx in
    same_below strings apart ys xs ly lx y.1 x.1 y.0 x.0 h
lower strings apart (suc k) ys xs ly lx cy cx ty tx h =
    (ty, lower strings apart k (next_level ys) xs (hashes_32 (joined_pairs ys)) lx (λ j. cy (suc j)) cx h.0 tx h.1)

root_single : (n : ℕ) (a : List ℕ) → root_within n (a ∷ []) ≡ a
unfolding root_within
root_single zero a = refl
root_single (suc n) a = refl

root_more : (n : ℕ) (l : List (List ℕ)) → 2 ≤ length l → root_within (suc n) l ≡ root_within n (next_level l)
unfolding root_within
root_more n l two = ap (λ b. if b then first_of l else root_within n (next_level l)) (lt-leb (length l) 1 (omega arith))

top : (n : ℕ) (l : List (List ℕ)) → 1 ≤ length l → length l ≤ suc n → (k : ℕ) × Above k l (root_within n l ∷ [])
top n [] some few = absurd (omega arith)
top n (a ∷ []) some few = (0, ap (λ s. s ∷ []) (sym (root_single n a)))
top zero (a ∷ b ∷ rest) some few = absurd (omega arith)
top (suc n) (a ∷ b ∷ rest) some few =
    let len = len_next (a ∷ b ∷ rest) in
    let two : 2 ≤ length (a ∷ b ∷ rest) = omega arith in
    let above = top n (next_level (a ∷ b ∷ rest)) (omega (arith, len.0)) (omega (arith, len.1)) in
    let same : root_within n (next_level (a ∷ b ∷ rest)) ≡ root_within (suc n) (a ∷ b ∷ rest) = sym (root_more n (a ∷ b ∷ rest) two) in
    (suc above.0, (two, subst (λ r. Above above.0 (next_level (a ∷ b ∷ rest)) (r ∷ [])) same above.1))

-- of two clean lists with one root, one is a level above the other
one_above : (strings : List (List ℕ)) → NoClash strings → (n m : ℕ) (xs ys : List (List ℕ)) → Are32 xs → Are32 ys → Clean strings xs → Clean strings ys
    → 1 ≤ length xs → 1 ≤ length ys → length xs ≤ suc n → length ys ≤ suc m → root_within n xs ≡ root_within m ys
    → ((k : ℕ) × Above k ys xs) ⊎ ((k : ℕ) × Above k xs ys)
one_above strings apart n m [] ys lx ly cx cy sx sy fx fy h = absurd (omega arith)
one_above strings apart n m (x ∷ []) ys lx ly cx cy sx sy fx fy h =
    let above = top m ys sy fy in
    inl (above.0, subst (λ r. Above above.0 ys (r ∷ [])) (sym h ∙ root_single n x) above.1)
one_above strings apart n m (x ∷ x' ∷ xs) [] lx ly cx cy sx sy fx fy h = absurd (omega arith)
one_above strings apart n m (x ∷ x' ∷ xs) (y ∷ []) lx ly cx cy sx sy fx fy h =
    let above = top n (x ∷ x' ∷ xs) sx fx in
    inr (above.0, subst (λ r. Above above.0 (x ∷ x' ∷ xs) (r ∷ [])) (h ∙ root_single m y) above.1)
one_above strings apart zero m (x ∷ x' ∷ xs) (y ∷ y' ∷ ys) lx ly cx cy sx sy fx fy h = absurd (omega arith)
one_above strings apart (suc n) zero (x ∷ x' ∷ xs) (y ∷ y' ∷ ys) lx ly cx cy sx sy fx fy h = absurd (omega arith)
one_above strings apart (suc n) (suc m) (x ∷ x' ∷ xs) (y ∷ y' ∷ ys) lx ly cx cy sx sy fx fy h =
    let tx : 2 ≤ length (x ∷ x' ∷ xs) = omega arith in
    let ty : 2 ≤ length (y ∷ y' ∷ ys) = omega arith in
    let jx = len_next (x ∷ x' ∷ xs) in
    let jy = len_next (y ∷ y' ∷ ys) in
    let above = one_above strings apart n m (next_level (x ∷ x' ∷ xs)) (next_level (y ∷ y' ∷ ys)) (hashes_32 (joined_pairs (x ∷ x' ∷ xs))) (hashes_32 (joined_pairs (y ∷ y' ∷ ys)))
    (λ k. cx (suc k)) (λ k. cy (suc k)) (omega (arith, jx.0)) (omega (arith, jy.0)) (omega (arith, jx.1)) (omega (arith, jy.1))
    (sym (root_more n (x ∷ x' ∷ xs) tx) ∙ h ∙ root_more m (y ∷ y' ∷ ys) ty) in
    elim above [
      | inl a ↦ inl (a.0, lower strings apart a.0 (y ∷ y' ∷ ys) (x ∷ x' ∷ xs) ly lx cy cx ty tx a.1)
      | inr a ↦ inr (a.0, lower strings apart a.0 (x ∷ x' ∷ xs) (y ∷ y' ∷ ys) lx ly cx cy tx ty a.1)
    ]

-- a hash that stands above a level is that of a string of 64 bytes
node_above : (strings : List (List ℕ)) (k : ℕ) (ys zs : List (List ℕ)) (z : List ℕ) → Are32 ys → Clean strings ys → 2 ≤ length ys
    → Above k (next_level ys) (z ∷ zs) → (s : List ℕ) × Among strings s × (length s ≡ 64) × (hash_of s ≡ z)
node_above strings k [] zs z ly cy two h = absurd (omega arith)
node_above strings k (a ∷ []) zs z ly cy two h = absurd (omega arith)
node_above strings zero (a ∷ b ∷ ys) zs z ly cy two h =
    (a ++ b, (cy 0 two).1.0, omega (arith, length-append a b, ly.0, ly.1.0), cc)
node_above strings (suc k) (a ∷ b ∷ ys) zs z ly cy two h =
    node_above strings k (next_level (a ∷ b ∷ ys)) zs z (hashes_32 (joined_pairs (a ∷ b ∷ ys))) (λ j. cy (suc j)) h.0 h.1

len_short : (l : List (List ℕ)) → length l ≤ 1 → (k : ℕ) → length (level k l) ≤ 1
len_short l short zero = short
len_short l short (suc k) = let r = len_next l in len_short (next_level l) (omega (arith, r.1)) k

or_none : (x y : Bool) → (x || y) ≡ false → (x ≡ false) × (y ≡ false)
or_none true y h = cc
or_none false y h = (refl, h)

among_parts : (strings xs ys : List (List ℕ)) → AllAmong strings (xs ++ ys) → AllAmong strings xs × AllAmong strings ys
among_parts strings [] ys h = (tt, h)
among_parts strings (x ∷ xs) ys h = let r = among_parts strings xs ys h.1 in ((h.0, r.0), r.1)

clean_step : (strings l : List (List ℕ)) → (has_twins l ≡ false) × AllAmong strings (joined_pairs l) → Clean strings (next_level l) → Clean strings l
clean_step strings l here above zero two = here
clean_step strings l here above (suc k) two = above k two

-- what isn't mutated is clean over what is hashed above it
clean : (strings : List (List ℕ)) (n : ℕ) (l : List (List ℕ)) → length l ≤ suc n → is_mutated_within n l ≡ false → AllAmong strings (nodes_within n l) → Clean strings l
unfolding is_mutated_within nodes_within
clean strings zero l short h inside = λ k two. absurd (omega (arith, len_short l (omega arith) k))
clean strings (suc n) l short h inside =
    let len = len_next l in
    let above : 1 < length l → is_mutated_within n (next_level l) ≡ false → AllAmong strings (nodes_within n (next_level l)) → Clean strings (next_level l) =
    λ two. clean strings n (next_level l) (omega (arith, len.1, two)) in
    elim (nat_le (length l) 1) as (λ b. nat_le (length l) 1 ≡ b → (if b then false else has_twins l || is_mutated_within n (next_level l)) ≡ false
    → AllAmong strings (if b then [] else joined_pairs l ++ nodes_within n (next_level l)) → Clean strings l) [
      | true ↦ λ one h inside k two. absurd (omega (arith, leb-true (length l) 1 one, len_short l (leb-true (length l) 1 one) k))
      | false ↦ λ more h inside.
          let none = or_none (has_twins l) (is_mutated_within n (next_level l)) h in
          let parts = among_parts strings (joined_pairs l) (nodes_within n (next_level l)) inside in
          clean_step strings l (none.0, parts.0) (above (leb-false (length l) 1 more) none.1 parts.1)
    ] refl h inside

-- strings of a list are in it, and in a longer one
among_left : (xs ys zs : List (List ℕ)) → AllAmong xs zs → AllAmong (xs ++ ys) zs
among_left xs ys [] h = tt
among_left xs ys (z ∷ zs) h = (one xs z h.0, among_left xs ys zs h.1)
  where
    one : (xs : List (List ℕ)) (z : List ℕ) → Among xs z → Among (xs ++ ys) z
    one [] z m = absurd m
    one (x ∷ xs) z (inl e) = inl e
    one (x ∷ xs) z (inr m) = inr (one xs z m)

among_right : (xs ys zs : List (List ℕ)) → AllAmong ys zs → AllAmong (xs ++ ys) zs
among_right xs ys [] h = tt
among_right xs ys (z ∷ zs) h = (one xs z h.0, among_right xs ys zs h.1)
  where
    one : (xs : List (List ℕ)) (z : List ℕ) → Among ys z → Among (xs ++ ys) z
    one [] z m = m
    one (x ∷ xs) z m = inr (one xs z m)

all_own : (xs : List (List ℕ)) → AllAmong xs xs
all_own [] = tt
all_own (x ∷ xs) = (inl refl, among_right (x ∷ []) xs xs (all_own xs))

-- lists of strings with the same hashes are equal
same_strings : (strings : List (List ℕ)) → NoClash strings → (s t : List (List ℕ)) → AllAmong strings s → AllAmong strings t → txids s ≡ txids t → s ≡ t
same_strings strings apart [] [] is it h = refl
same_strings strings apart [] (y ∷ t) is it h = cc
same_strings strings apart (x ∷ s) [] is it h = cc
same_strings strings apart (x ∷ s) (y ∷ t) is it h =
    let hash : hash_of x ≡ hash_of y = cc in
    let others : txids s ≡ txids t = cc in
    let first = apart x y is.0 it.0 hash in
    let rest = same_strings strings apart s t is.1 it.1 others in
    λ i. first i ∷ rest i

-- no transaction stands where a node does
not_above : (strings : List (List ℕ)) → NoClash strings → (k : ℕ) (s t : List (List ℕ)) → Clean strings (txids t) → AllAmong strings s → None64 s → 0 < length s
    → 2 ≤ length (txids t) → Above k (next_level (txids t)) (txids s) → ⊥
not_above strings apart k [] t ct is none some two h = omega arith
not_above strings apart k (x ∷ s) t ct is none some two h =
    let node = node_above strings k (txids t) (txids s) (hash_of x) (hashes_32 t) ct two h in
    let same = apart node.0 x node.1 is.0 node.3 in
    none.0 (sym (ap length same) ∙ node.2)

below_one_root : (strings : List (List ℕ)) → NoClash strings → (s t : List (List ℕ)) → IsUnmutated s → IsUnmutated t
    → AllAmong strings s → AllAmong strings t → AllAmong strings (nodes (txids s)) → AllAmong strings (nodes (txids t)) → merkle_root_of (txids s) ≡ merkle_root_of (txids t) → s ≡ t
below_one_root strings apart s t us ut is it ns nt h =
    let ls : length (txids s) ≡ length s = length-map s hash_of in
    let lt : length (txids t) ≡ length t = length-map t hash_of in
    let cs = clean strings (length (txids s)) (txids s) (omega arith) us.unmutated ns in
    let ct = clean strings (length (txids t)) (txids t) (omega arith) ut.unmutated nt in
    let ss : 0 < length s = us.some in
    let st : 0 < length t = ut.some in
    let found = one_above strings apart (length (txids s)) (length (txids t)) (txids s) (txids t) (hashes_32 s) (hashes_32 t) cs ct (omega (arith, ls, ss)) (omega (arith, lt, st)) (omega arith) (omega arith) h in
    elim found [
      | inl a ↦ first a.0 a.1 ct ss
      | inr a ↦ second a.0 a.1 cs st
    ]
  where
    first : (k : ℕ) → Above k (txids t) (txids s) → Clean strings (txids t) → 0 < length s → s ≡ t
    first zero a ct ss = same_strings strings apart s t is it (sym a)
    first (suc k) a ct ss = absurd (not_above strings apart k s t ct is us.none64 ss a.0 a.1)

    second : (k : ℕ) → Above k (txids s) (txids t) → Clean strings (txids s) → 0 < length t → s ≡ t
    second zero a cs st = same_strings strings apart s t is it a
    second (suc k) a cs st = absurd (not_above strings apart k t s cs it ut.none64 st a.0 a.1)

pub one_list_below : (s t : List (List ℕ)) → IsUnmutated s → IsUnmutated t → NoClash (hashed s ++ hashed t) → merkle_root_of (txids s) ≡ merkle_root_of (txids t) → s ≡ t
one_list_below s t us ut apart h =
    let left = among_parts (hashed s) s (nodes (txids s)) (all_own (hashed s)) in
    let right = among_parts (hashed t) t (nodes (txids t)) (all_own (hashed t)) in
    below_one_root (hashed s ++ hashed t) apart s t us ut
    (among_left (hashed s) (hashed t) s left.0) (among_right (hashed s) (hashed t) t right.0)
    (among_left (hashed s) (hashed t) (nodes (txids s)) left.1) (among_right (hashed s) (hashed t) (nodes (txids t)) right.1) h

-- more levels than there are change nothing
pub root_enough : (n m : ℕ) (l : List (List ℕ)) → length l ≤ suc n → length l ≤ suc m → root_within n l ≡ root_within m l
unfolding root_within
root_enough zero zero l hn hm = refl
root_enough zero (suc m) l hn hm = sym (ap (λ b. if b then first_of l else root_within m (next_level l)) (le-leb (length l) 1 (omega arith)))
root_enough (suc n) zero l hn hm = ap (λ b. if b then first_of l else root_within n (next_level l)) (le-leb (length l) 1 (omega arith))
root_enough (suc n) (suc m) l hn hm =
    let len = len_next l in
    let above : 1 < length l → root_within n (next_level l) ≡ root_within m (next_level l) = λ two. root_enough n m (next_level l) (omega (arith, len.1, two)) (omega (arith, len.1, two)) in
    elim (nat_le (length l) 1) as (λ b. nat_le (length l) 1 ≡ b → (if b then first_of l else root_within n (next_level l)) ≡ (if b then first_of l else root_within m (next_level l))) [
      | true ↦ λ one. refl
      | false ↦ λ more. above (leb-false (length l) 1 more)
    ] refl

-- a step up keeps the root
pub root_up : (l : List (List ℕ)) → 2 ≤ length l → merkle_root_of l ≡ merkle_root_of (next_level l)
root_up l two =
    let len = len_next l in
    let more : root_within (length l) l ≡ root_within (suc (length l)) l = root_enough (length l) (suc (length l)) l (omega arith) (omega arith) in
    more ∙ root_more (length l) l two ∙ root_enough (length l) (length (next_level l)) (next_level l) (omega (arith, len.1)) (omega arith)

pub root_ends : (l : List (List ℕ)) → length l ≤ 1 → merkle_root_of l ≡ first_of l
unfolding root_within
root_ends l short = root_enough (length l) zero l (omega arith) (omega arith)

mutated_enough : (n m : ℕ) (l : List (List ℕ)) → length l ≤ suc n → length l ≤ suc m → is_mutated_within n l ≡ is_mutated_within m l
unfolding is_mutated_within
mutated_enough zero zero l hn hm = refl
mutated_enough zero (suc m) l hn hm = sym (ap (λ b. if b then false else has_twins l || is_mutated_within m (next_level l)) (le-leb (length l) 1 (omega arith)))
mutated_enough (suc n) zero l hn hm = ap (λ b. if b then false else has_twins l || is_mutated_within n (next_level l)) (le-leb (length l) 1 (omega arith))
mutated_enough (suc n) (suc m) l hn hm =
    let len = len_next l in
    let above : 1 < length l → is_mutated_within n (next_level l) ≡ is_mutated_within m (next_level l) = λ two. mutated_enough n m (next_level l) (omega (arith, len.1, two)) (omega (arith, len.1, two)) in
    elim (nat_le (length l) 1) as (λ b. nat_le (length l) 1 ≡ b → (if b then false else has_twins l || is_mutated_within n (next_level l)) ≡ (if b then false else has_twins l || is_mutated_within m (next_level l))) [
      | true ↦ λ one. refl
      | false ↦ λ more. ap (λ x. has_twins l || x) (above (leb-false (length l) 1 more))
    ] refl

mutated_more : (n : ℕ) (l : List (List ℕ)) → 2 ≤ length l → is_mutated_within (suc n) l ≡ (has_twins l || is_mutated_within n (next_level l))
unfolding is_mutated_within
mutated_more n l two = ap (λ b. if b then false else has_twins l || is_mutated_within n (next_level l)) (lt-leb (length l) 1 (omega arith))

pub mutated_up : (l : List (List ℕ)) → 2 ≤ length l → is_mutated l ≡ (has_twins l || is_mutated (next_level l))
mutated_up l two =
    let len = len_next l in
    mutated_enough (length l) (suc (length l)) l (omega arith) (omega arith) ∙ mutated_more (length l) l two
    ∙ ap (λ x. has_twins l || x) (mutated_enough (length l) (length (next_level l)) (next_level l) (omega (arith, len.1)) (omega arith))

pub mutated_ends : (l : List (List ℕ)) → length l ≤ 1 → is_mutated l ≡ false
unfolding is_mutated_within
mutated_ends l short = mutated_enough (length l) zero l (omega arith) (omega arith)
