-- Halving a level in place.
use Rattle.std.proofs.Common.{◌≡◌, ℕ, Bool, suc, ◌+◌, ◌*◌, ◌-◌, ◌/◌, ◌%◌, ◌<◌, ◌≤◌, true, false, List, [], ◌∷◌, ◌++◌, length, take, drop, get_or, refl, sym, ◌∙◌, ap, arith, append_assoc, append-nil}
use Rattle.std.proofs.Math.Bool.{or_assoc}
use Rattle.std.proofs.Math.ListN.{set}
use Rattle.std.specs.Prelude.{◌||◌, ◌≢◌}
use Rattle.cf_block.proofs.Roots.{root_up, root_ends, mutated_up, mutated_ends}
use Rattle.std.proofs.Math.Seq.{drop-cons}
use Rattle.std.proofs.lemmas.List.{map-append, drop-set-lt, length-map, length-take-le}
use Rattle.std.proofs.lemmas.Grind.{take-set_at}
use Rattle.cf_bytes.specs.declared.hash.Hash32.{Hash32}
use Rattle.cf_bytes.specs.Hash.{hash_of}
use Rattle.cf_block.specs.Merkle.{next_level, has_twins, merkle_root_of, is_mutated}
use Rattle.cf_block.specs.Views.{bytes_of}

bytes_of-append : (xs ys : List Hash32) → bytes_of (xs ++ ys) ≡ bytes_of xs ++ bytes_of ys
bytes_of-append xs ys = map-append (λ (h : Hash32). h.0) xs ys

-- one pair more
pub pair_halved : (level : List Hash32) (n i : ℕ) (z a b h : Hash32) → 2 * i + 1 < n → n ≤ length level → a ≡ get_or level (2 * i) z → b ≡ get_or level (2 * i + 1) z → h.0 ≡ hash_of (a.0 ++ b.0)
    → bytes_of (take i level) ++ next_level (bytes_of (take (n - 2 * i) (drop (2 * i) level)))
    ≡ bytes_of (take (i + 1) (set level i h)) ++ next_level (bytes_of (take (n - 2 * (i + 1)) (drop (2 * (i + 1)) (set level i h))))
pair_halved level n i z a b h within len is_a is_b joined =
    let two : drop (2 * i) level ≡ a ∷ b ∷ drop (2 * (i + 1)) level = rest_of level i z a b (omega arith) is_a is_b in
    let count : n - 2 * i ≡ suc (suc (n - 2 * (i + 1))) = omega arith in
    let front : take (n - 2 * i) (drop (2 * i) level) ≡ a ∷ b ∷ take (n - 2 * (i + 1)) (drop (2 * (i + 1)) level) = λ j. take (count j) (two j) in
    let back : drop (2 * (i + 1)) (set level i h) ≡ drop (2 * (i + 1)) level = drop-set-lt (2 * (i + 1)) level i h (omega arith) in
    let done : take (i + 1) (set level i h) ≡ take i level ++ h ∷ [] = take-set_at level i (i + 1) h refl (omega arith) in
    ap (λ s. bytes_of (take i level) ++ next_level (bytes_of s)) front
    ∙ ap (λ x. bytes_of (take i level) ++ (x ∷ next_level (bytes_of (take (n - 2 * (i + 1)) (drop (2 * (i + 1)) level))))) (sym joined)
    ∙ sym (append_assoc (bytes_of (take i level)) (h.0 ∷ []) (next_level (bytes_of (take (n - 2 * (i + 1)) (drop (2 * (i + 1)) level)))))
    ∙ ap (λ s. s ++ next_level (bytes_of (take (n - 2 * (i + 1)) (drop (2 * (i + 1)) level)))) (sym (ap (λ s. bytes_of s) done ∙ bytes_of-append (take i level) (h ∷ [])))
    ∙ ap (λ s. bytes_of (take (i + 1) (set level i h)) ++ next_level (bytes_of (take (n - 2 * (i + 1)) s))) (sym back)
  where
    rest_of : (level : List Hash32) (i : ℕ) (z a b : Hash32) → 2 * i + 1 < length level → a ≡ get_or level (2 * i) z → b ≡ get_or level (2 * i + 1) z → drop (2 * i) level ≡ a ∷ b ∷ drop (2 * (i + 1)) level
    rest_of level i z a b lt is_a is_b =
        let next : 2 * i + 1 ≡ suc (2 * i) = omega arith in
        let after : 2 * (i + 1) ≡ suc (suc (2 * i)) = omega arith in
        drop-cons level (2 * i) z (omega arith)
        ∙ (λ j. (sym is_a) j ∷ drop-cons level (suc (2 * i)) z (omega arith) j)
        ∙ (λ j. a ∷ (sym (is_b ∙ ap (λ k. get_or level k z) next)) j ∷ drop (sym after j) level)

-- the odd last hash
pub last_halved : (old level : List Hash32) (n : ℕ) (z a h : Hash32) → n % 2 ≢ 0 → n ≤ length level → a ≡ get_or level (n - 1) z → h.0 ≡ hash_of (a.0 ++ a.0)
    → next_level (bytes_of (take n old)) ≡ bytes_of (take (n / 2) level) ++ next_level (bytes_of (take (n - 2 * (n / 2)) (drop (2 * (n / 2)) level)))
    → bytes_of (take ((n + 1) / 2) (set level (n / 2) h)) ≡ next_level (bytes_of (take n old))
last_halved old level n z a h odd len is_a joined before =
    let half : (n + 1) / 2 ≡ n / 2 + 1 = omega arith in
    let one : n - 2 * (n / 2) ≡ 1 = omega arith in
    let at : 2 * (n / 2) ≡ n - 1 = omega arith in
    let rest : drop (2 * (n / 2)) level ≡ a ∷ drop (suc (n - 1)) level = ap (λ k. drop k level) at ∙ drop-cons level (n - 1) z (omega arith) ∙ ap (λ x. x ∷ drop (suc (n - 1)) level) (sym is_a) in
    let front : take (n - 2 * (n / 2)) (drop (2 * (n / 2)) level) ≡ a ∷ [] = λ j. take (one j) (rest j) in
    let done : take ((n + 1) / 2) (set level (n / 2) h) ≡ take (n / 2) level ++ h ∷ [] = ap (λ k. take k (set level (n / 2) h)) half ∙ take-set_at level (n / 2) (n / 2 + 1) h refl (omega arith) in
    ap (λ s. bytes_of s) done ∙ bytes_of-append (take (n / 2) level) (h ∷ [])
    ∙ ap (λ x. bytes_of (take (n / 2) level) ++ (x ∷ [])) joined
    ∙ sym (before ∙ ap (λ s. bytes_of (take (n / 2) level) ++ next_level (bytes_of s)) front)

pub even_halved : (old level : List Hash32) (n : ℕ) → n % 2 ≡ 0
    → next_level (bytes_of (take n old)) ≡ bytes_of (take (n / 2) level) ++ next_level (bytes_of (take (n - 2 * (n / 2)) (drop (2 * (n / 2)) level)))
    → bytes_of (take ((n + 1) / 2) level) ≡ next_level (bytes_of (take n old))
even_halved old level n even before =
    let half : (n + 1) / 2 ≡ n / 2 = omega arith in
    let none : n - 2 * (n / 2) ≡ 0 = omega arith in
    ap (λ k. bytes_of (take k level)) half
    ∙ sym (before ∙ ap (λ k. bytes_of (take (n / 2) level) ++ next_level (bytes_of (take k (drop (2 * (n / 2)) level)))) none ∙ append-nil (bytes_of (take (n / 2) level)))

pub twins_short : (l : List Hash32) → length l < 2 → has_twins (bytes_of l) ≡ false
twins_short [] short = refl
twins_short (a ∷ []) short = refl
twins_short (a ∷ b ∷ rest) short = absurd (omega arith)

length-bytes_of : (l : List Hash32) → length (bytes_of l) ≡ length l
length-bytes_of l = length-map l (λ (h : Hash32). h.0)

-- the root stays
pub root_halved : (level new : List Hash32) (n n' : ℕ) → 1 < n → n ≤ length level → n' ≡ (n + 1) / 2
    → bytes_of (take ((n + 1) / 2) new) ≡ next_level (bytes_of (take n level)) → merkle_root_of (bytes_of (take n level)) ≡ merkle_root_of (bytes_of (take n' new))
root_halved level new n n' two len next is =
    let size : length (bytes_of (take n level)) ≡ n = length-bytes_of (take n level) ∙ length-take-le n level len in
    root_up (bytes_of (take n level)) (omega (arith, size)) ∙ ap merkle_root_of (sym is) ∙ ap (λ k. merkle_root_of (bytes_of (take k new))) (sym next)

pub root_alone : (level : List Hash32) (n : ℕ) (z : Hash32) → n ≡ 1 → n ≤ length level → (get_or level 0 z).0 ≡ merkle_root_of (bytes_of (take n level))
root_alone [] n z one len = absurd (omega arith)
root_alone (a ∷ level) n z one len = sym (ap (λ k. merkle_root_of (bytes_of (take k (a ∷ level)))) one ∙ root_ends (bytes_of (a ∷ [])) (omega arith))

or_false : (b : Bool) → (b || false) ≡ b
or_false true = refl
or_false false = refl

-- a level's twins are noted, and the level above is left to look at
pub doubled_more : (old level new : List Hash32) (n n' : ℕ) (noted twins : Bool) → 1 < n → n ≤ length level → n' ≡ (n + 1) / 2 → twins ≡ has_twins (bytes_of (take n level))
    → bytes_of (take ((n + 1) / 2) new) ≡ next_level (bytes_of (take n level)) → is_mutated (bytes_of old) ≡ (noted || is_mutated (bytes_of (take n level)))
    → is_mutated (bytes_of old) ≡ ((noted || twins) || is_mutated (bytes_of (take n' new)))
doubled_more old level new n n' noted twins two len next is above so_far =
    let size : length (bytes_of (take n level)) ≡ n = length-bytes_of (take n level) ∙ length-take-le n level len in
    let here : is_mutated (bytes_of (take n level)) ≡ (twins || is_mutated (bytes_of (take n' new))) =
    mutated_up (bytes_of (take n level)) (omega (arith, size))
    ∙ (λ i. (sym is) i || is_mutated ((sym above) i))
    ∙ ap (λ k. twins || is_mutated (bytes_of (take k new))) (sym next) in
    so_far ∙ ap (λ b. noted || b) here ∙ sym (or_assoc noted twins (is_mutated (bytes_of (take n' new))))

pub doubled_end : (old level : List Hash32) (n : ℕ) (noted : Bool) → n ≤ 1 → n ≤ length level → is_mutated (bytes_of old) ≡ (noted || is_mutated (bytes_of (take n level)))
    → noted ≡ is_mutated (bytes_of old)
doubled_end old level n noted one len so_far =
    let size : length (bytes_of (take n level)) ≡ n = length-bytes_of (take n level) ∙ length-take-le n level len in
    let none : is_mutated (bytes_of (take n level)) ≡ false = mutated_ends (bytes_of (take n level)) (omega (arith, size)) in
    sym (so_far ∙ ap (λ b. noted || b) none ∙ or_false noted)
