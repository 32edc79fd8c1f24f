-- The times that count for a header, as they move along a chain.
use Rattle.std.proofs.Common.{◌≡◌, ℕ, zero, suc, ◌+◌, ◌-◌, ◌<◌, ◌≤◌, inl, inr, min, set, List, [], ◌∷◌, ◌++◌, map, length, get_or, take, drop, reverse, append_assoc, refl, sym, ◌∙◌, ap, arith}
use Rattle.std.proofs.lemmas.List.{take-take, take-append-le, take_all, take-map, drop-map, map-append, reverse-append, length-reverse, length-take, length-take-le, length-drop, length-map}
use Rattle.std.proofs.lemmas.Grind.{reverse_onto, common_steps}
use Rattle.std.proofs.lemmas.Bool.{cases_lt}
use Rattle.cf_block.specs.declared.header.Header.{Header}
use Rattle.cf_block.specs.Header.{genesis_header}
use Rattle.cf_headers.specs.declared.entry.HashedHeader.{HashedHeader}
use Rattle.cf_headers.specs.Rules.{past_after}
use Rattle.cf_headers.specs.Chain.{Chain, times_of, past_of, lower}
use Rattle.cf_headers.specs.Entries.{headers_of, chain_of, past_through}
use Rattle.cf_headers.specs.Nodes.{Nodes, entry_in, entries_along, chain_along}
use Rattle.cf_headers.proofs.Stacks.{lower_reverse}
use Rattle.cf_headers.proofs.EntryLists.{many}

-- one header more
pub past_more : (h : Header) (chain : Chain) → past_of (h ∷ chain) ≡ past_after h.time (past_of chain)
unfolding past_of
past_more h chain = ap (λ (ts : List ℕ). h.time ∷ ts) (sym (take-take 10 11 (times_of chain) (omega arith)))

pub some_past : (chain : Chain) → 1 ≤ length (past_of chain)
unfolding past_of
some_past [] = omega arith
some_past (h ∷ below) = omega arith

-- ---- through headers that stand lowest first

abbrev times : List Header → List ℕ
times hs = map (λ h. h.time) hs

take_within : (m n : ℕ) (xs ys : List ℕ) → n ≤ m → take n (xs ++ take m ys) ≡ take n (xs ++ ys)
take_within m n [] ys le = take-take n m ys le
take_within m zero (x ∷ xs) ys le = refl
take_within m (suc n) (x ∷ xs) ys le = ap (λ (ts : List ℕ). x ∷ ts) (take_within m n xs ys (omega (arith, le)))

through_is : (hs : List Header) (past : List ℕ) → length past ≤ 11 → past_through hs past ≡ take 11 (reverse (times hs) ++ past)
unfolding past_through
through_is [] past few = sym (take_all 11 past few)
through_is (h ∷ hs) past few =
    through_is hs (past_after h.time past) (omega (arith, length-take 11 (h.time ∷ past)))
    ∙ take_within 11 11 (reverse (times hs)) (h.time ∷ past) (omega arith)
    ∙ ap (take 11) (sym (append_assoc (reverse (times hs)) (h.time ∷ []) past) ∙ ap (λ (ts : List ℕ). ts ++ past) (sym (reverse_onto (times hs) h.time [])))

times_reverse : (hs : List Header) → times_of (reverse hs) ≡ reverse (times hs) ++ (genesis_header.time ∷ [])
times_reverse hs = times_map (reverse hs) ∙ ap (λ (ts : List ℕ). ts ++ (genesis_header.time ∷ [])) (turned hs) where
  times_map : (chain : Chain) → times_of chain ≡ times chain ++ (genesis_header.time ∷ [])
  times_map [] = refl
  times_map (h ∷ below) = ap (λ (ts : List ℕ). h.time ∷ ts) (times_map below)

  append_times : (xs ys : List Header) → times (xs ++ ys) ≡ times xs ++ times ys
  append_times [] ys = refl
  append_times (x ∷ xs) ys = ap (λ (ts : List ℕ). x.time ∷ ts) (append_times xs ys)

  turned : (xs : List Header) → times (reverse xs) ≡ reverse (times xs)
  turned [] = refl
  turned (x ∷ xs) = ap times (reverse_onto xs x []) ∙ append_times (reverse xs) (x ∷ []) ∙ ap (λ (ts : List ℕ). ts ++ (x.time ∷ [])) (turned xs) ∙ sym (reverse_onto (times xs) x.time [])

-- only the last eleven count
few_genesis : length (past_of []) ≤ 11
unfolding past_of
few_genesis = omega arith

parts : (front back : List Header) → past_of (reverse (front ++ back)) ≡ take 11 (reverse (times back) ++ (reverse (times front) ++ (genesis_header.time ∷ [])))
unfolding past_of
parts front back =
    ap (take 11) (times_reverse (front ++ back)
    ∙ ap (λ (ts : List ℕ). ts ++ (genesis_header.time ∷ [])) (ap reverse (map-append (λ (h : Header). h.time) front back) ∙ reverse-append (times front) (times back))
    ∙ append_assoc (reverse (times back)) (reverse (times front)) (genesis_header.time ∷ []))

last_eleven : (front back : List Header) → length back ≡ 11 → past_through back (past_of []) ≡ past_of (reverse (front ++ back))
last_eleven front back e =
    let len : length (reverse (times back)) ≡ 11 = length-reverse (times back) ∙ length-map back (λ (h : Header). h.time) ∙ e in
    through_is back (past_of []) few_genesis
    ∙ take-append-le 11 (reverse (times back)) (past_of []) (omega (arith, len))
    ∙ sym (take-append-le 11 (reverse (times back)) (reverse (times front) ++ (genesis_header.time ∷ [])) (omega (arith, len)))
    ∙ sym (parts front back)

all_of_few : (back : List Header) → past_through back (past_of []) ≡ past_of (reverse back)
unfolding past_of
all_of_few back = through_is back (past_of []) few_genesis ∙ sym (parts [] back)

none_taken : {A : Type 0} (i : ℕ) → take {A = A} i [] ≡ []
none_taken {A} zero = refl
none_taken {A} (suc i) = refl

take_parts : {A : Type 0} (m n : ℕ) (xs : List A) → take (m + n) xs ≡ take m xs ++ take n (drop m xs)
take_parts {A} zero n xs = let none : 0 + n ≡ n = omega arith in ap (λ (i : ℕ). take i xs) none
take_parts {A} (suc m) n [] = let more : suc m + n ≡ suc (m + n) = omega arith in ap (λ (i : ℕ). take {A = A} i []) more ∙ sym (none_taken n)
take_parts {A} (suc m) n (x ∷ xs) = let more : suc m + n ≡ suc (m + n) = omega arith in ap (λ (i : ℕ). take i (x ∷ xs)) more ∙ ap (λ (ys : List A). x ∷ ys) (take_parts m n xs)

-- the headers of entries from one place on
part_of : (es : List HashedHeader) (s n : ℕ) → headers_of (take n (drop s es)) ≡ take n (drop s (headers_of es))
part_of es s n = sym (take-map (λ (e : HashedHeader). e.header) n (drop s es)) ∙ ap (take n) (sym (drop-map (λ (e : HashedHeader). e.header) s es))

pub past_is : (es : List HashedHeader) (k s : ℕ) → k ≤ length es → s ≡ k - 11 → past_through (headers_of (take (k - s) (drop s es))) (past_of []) ≡ past_of (lower k (chain_of es))
past_is es k s le is =
    let hs = headers_of es in
    let split : reverse (take s hs ++ take (k - s) (drop s hs)) ≡ lower k (chain_of es) =
    let up : s + (k - s) ≡ k = omega (arith, is) in
    ap reverse (sym (take_parts s (k - s) hs) ∙ ap (λ (i : ℕ). take i hs) up) ∙ sym (lower_reverse k hs) in
    ap (λ (xs : List Header). past_through xs (past_of [])) (part_of es s (k - s))
    ∙ elim (cases_lt k 11) [
      | inl lt ↦
          let none : s ≡ 0 = omega (arith, is, lt) in
          all_of_few (take (k - s) (drop s hs)) ∙ ap (λ (i : ℕ). past_of (reverse (take i hs ++ take (k - s) (drop s hs)))) (sym none) ∙ ap past_of split
      | inr ge ↦
          let len : length (take (k - s) (drop s hs)) ≡ 11 = length-take-le (k - s) (drop s hs) (omega (arith, length-drop s hs, many es, le)) ∙ omega (arith, is, ge) in
          last_eleven (take s hs) (take (k - s) (drop s hs)) len ∙ ap past_of split
    ]

-- one entry further
pub through_on : (es : List HashedHeader) (i : ℕ) (e : HashedHeader) (past : List ℕ) → i < length es → e ≡ get_or es i e
    → past_through (drop i (headers_of es)) past ≡ past_through (drop (i + 1) (headers_of es)) (past_after e.header.time past)
unfolding past_through
through_on [] i e past lt is = absurd (omega (arith, lt))
through_on (x ∷ es) zero e past lt is = ap (λ (y : HashedHeader). past_through (headers_of es) (past_after y.header.time past)) (sym is)
through_on (x ∷ es) (suc i) e past lt is = let more : suc i + 1 ≡ suc (i + 1) = omega arith in rw more (through_on es i e past (omega (arith, lt)) is)

-- ---- the same of names

-- the entries of names from one place on
along_part : (nodes : Nodes) (names : List ℕ) (s n : ℕ) → entries_along nodes (take n (drop s names)) ≡ take n (drop s (entries_along nodes names))
along_part nodes names s n = sym (take-map (λ (m : ℕ). entry_in (nodes m)) n (drop s names)) ∙ ap (take n) (sym (drop-map (λ (m : ℕ). entry_in (nodes m)) s names))

pub past_along_is : (nodes : Nodes) (names : List ℕ) (k s : ℕ) → k ≤ length names → s ≡ k - 11
    → past_through (headers_of (entries_along nodes (take (k - s) (drop s names)))) (past_of []) ≡ past_of (lower k (chain_along nodes names))
past_along_is nodes names k s le is =
    let few : k ≤ length (entries_along nodes names) = omega (arith, le, length-map names (λ (m : ℕ). entry_in (nodes m))) in
    ap (λ (es : List HashedHeader). past_through (headers_of es) (past_of [])) (along_part nodes names s (k - s)) ∙ past_is (entries_along nodes names) k s few is

pub through_name : (nodes : Nodes) (ns : List ℕ) (i time : ℕ) (past next whole : List ℕ) → i < length ns → time ≡ (entry_in (nodes (get_or ns i 0))).header.time → next ≡ past_after time past
    → past_through (drop i (headers_of (entries_along nodes ns))) past ≡ whole → past_through (drop (i + 1) (headers_of (entries_along nodes ns))) next ≡ whole
unfolding past_through
through_name nodes [] i time past next whole lt is after e = absurd (omega (arith, lt))
through_name nodes (m ∷ ns) zero time past next whole lt is after e =
    ap (past_through (headers_of (entries_along nodes ns))) (after ∙ ap (λ (t : ℕ). past_after t past) is) ∙ e
through_name nodes (m ∷ ns) (suc i) time past next whole lt is after e =
    let more : suc i + 1 ≡ suc (i + 1) = omega arith in rw more (through_name nodes ns i time past next whole (omega (arith, lt)) is after e)

pub through_names : (nodes : Nodes) (ns : List ℕ) (i : ℕ) (past : List ℕ) → length ns ≤ i → past_through (drop i (headers_of (entries_along nodes ns))) past ≡ past
unfolding past_through
through_names nodes [] zero past le = refl
through_names nodes [] (suc i) past le = refl
through_names nodes (m ∷ ns) zero past le = absurd (omega (arith, le))
through_names nodes (m ∷ ns) (suc i) past le = through_names nodes ns i past (omega (arith, le))

-- ---- times in eleven places

min-le : (m n : ℕ) → min m n ≤ m
min-le m n = grind (arith, common_steps)

one_long : (xs : List ℕ) → length xs ≡ 1 → (y : ℕ) × (xs ≡ y ∷ [])
one_long [] e = absurd (omega (arith, e))
one_long (y ∷ []) e = (y, refl)
one_long (y ∷ z ∷ zs) e = absurd (omega (arith, e))

pub pushed : (time k count : ℕ) (times rotated : List ℕ) → length times ≡ 11 → rotated ≡ drop (length times - 1) times ++ take (length times - 1) times
    → 1 ≤ count → count ≤ 11 → k ≡ min 11 (count + 1) → take k (set rotated 0 time) ≡ time ∷ take 10 (take count times)
pushed time k count times rotated len is some most least =
    let ten : length times - 1 ≡ 10 = omega (arith, len) in
    let last = one_long (drop 10 times) (length-drop 10 times ∙ omega (arith, len)) in
    let whole : set rotated 0 time ≡ time ∷ take 10 times =
    ap (λ (xs : List ℕ). set xs 0 time) (is ∙ ap (λ (n : ℕ). drop n times ++ take n times) ten ∙ ap (λ (xs : List ℕ). xs ++ take 10 times) last.1) in
    elim (cases_lt count 11) [
      | inl lt ↦
          let up : k ≡ suc count = grind (arith, common_steps, least, lt) in
          ap (λ (n : ℕ). take n (set rotated 0 time)) up ∙ ap (take (suc count)) whole
          ∙ ap (λ (xs : List ℕ). time ∷ xs) (take-take count 10 times (omega (arith, lt)) ∙ sym (take_all 10 (take count times) (omega (arith, lt, length-take count times, min-le count (length times)))))
      | inr ge ↦
          let up : k ≡ 11 = grind (arith, common_steps, least, ge) in
          ap (λ (n : ℕ). take n (set rotated 0 time)) up ∙ ap (take 11) whole
          ∙ ap (λ (xs : List ℕ). time ∷ xs) (take-take 10 10 times (omega arith) ∙ sym (take-take 10 count times (omega (arith, ge))))
    ]
