-- What is made passes.
use Rattle.std.proofs.Common.{◌≡◌, ℕ, zero, suc, ◌+◌, ◌*◌, ◌/◌, ◌^◌, ◌<◌, ◌≤◌, Bool, true, false, List, [], ◌∷◌, ◌++◌, length, get_or, Some, ◌⊎◌, inl, inr, refl, sym, ◌∙◌, ap, subst, arith}
use Rattle.std.specs.Prelude.{◌==◌, ◌||◌, nat_eq, if◌then◌else◌}
use Rattle.std.specs.Cmp.Lexicographic.{pointwise}
use Rattle.std.proofs.lemmas.Bool.{or_parts, or_from, eqb-false, eq-eqb, ltb-true, ltb-false, cases_eq, cases_lt}
use Rattle.std.proofs.lemmas.List.{append_assoc, length-append}
use Rattle.std.proofs.lemmas.Nat.{shr-shr, pow_pos}
use Rattle.std.proofs.Math.Nat.{two-pow-succ, div-mul-le_self}
use Rattle.cf_bytes.specs.Hash.{hash_of}
use Rattle.cf_block.proofs.Roots.{mutated_up}
use Rattle.cf_block.specs.Merkle.{next_level, has_twins, is_mutated, Among}
use Rattle.cf_proof.specs.Tree.{is_there, level_at, node_at}
use Rattle.cf_proof.specs.Walk.{Walked, with_hash, with_both, with_left, walk}
use Rattle.cf_proof.specs.Made.{Parts, joined_parts, one_child, parts_of}
use Rattle.cf_proof.proofs.Levels.{level_shift, few_above, among_left, among_right}
use Rattle.cf_proof.proofs.MakeLemmas.{level_there, level_over, next_both, next_left, at_suc, twice}

at_least : (m : ℕ) (l : List (List ℕ)) → 2 ≤ length (level_at (suc m) l) → 2 ≤ length l
at_least m l two = elim (cases_lt (length l) 2) [ inl few ↦ absurd (omega (arith, few_above (suc m) l (omega arith))) | inr many ↦ many ]

-- a tree that isn't doubled has no equal children
level_clean : (m : ℕ) (l : List (List ℕ)) → is_mutated l ≡ false → 2 ≤ length (level_at m l) → has_twins (level_at m l) ≡ false
unfolding level_at
level_clean zero l clean two = (or_parts (has_twins l) (is_mutated (next_level l)) (sym (mutated_up l two) ∙ clean)).0
level_clean (suc m) l clean two =
    let shifted : level_at m (next_level l) ≡ level_at (suc m) l = level_shift m l in
    let many : 2 ≤ length l = at_least m l two in
    let above : is_mutated (next_level l) ≡ false = (or_parts (has_twins l) (is_mutated (next_level l)) (sym (mutated_up l many) ∙ clean)).1 in
    subst (λ s. has_twins s ≡ false) shifted (level_clean m (next_level l) above (subst (λ s. 2 ≤ length s) (sym shifted) two))

no_pair : (l : List (List ℕ)) (q : ℕ) → has_twins l ≡ false → 2 * q + 1 < length l → pointwise nat_eq (get_or l (2 * q) []) (get_or l (2 * q + 1) []) ≡ false
no_pair [] q h lt = absurd (omega arith)
no_pair (a ∷ []) q h lt = absurd (omega arith)
no_pair (a ∷ b ∷ rest) zero h lt = (or_parts (pointwise nat_eq a b) (has_twins rest) h).0
no_pair (a ∷ b ∷ rest) (suc q) h lt =
    let left : 2 * suc q ≡ suc (suc (2 * q)) = omega arith in
    let right : 2 * suc q + 1 ≡ suc (suc (2 * q + 1)) = omega arith in
    (λ i. pointwise nat_eq (get_or (a ∷ b ∷ rest) (left i) []) (get_or (a ∷ b ∷ rest) (right i) [])) ∙ no_pair rest q ((or_parts (pointwise nat_eq a b) (has_twins rest) h).1) (omega arith)

-- the walk through the parts that were made
pub record IsWalkOf (l : List (List ℕ)) (leaf n p : ℕ) (bits more : List Bool) (hashes others : List (List ℕ)) : Type 0 where
  pub walked : Walked
  pub is : walk (length l) n p bits hashes ≡ Some walked
  pub hash_is : walked.hash ≡ node_at n p l
  pub twins_are : walked.twins ≡ false
  pub bits_are : walked.bits ≡ more
  pub hashes_are : walked.hashes ≡ others
  pub matched_has : leaf / 2 ^ n ≡ p → leaf < length l → Among walked.matched (get_or l leaf [])

half_of : (leaf n p : ℕ) → leaf / 2 ^ suc n ≡ p → (leaf / 2 ^ n ≡ 2 * p) ⊎ (leaf / 2 ^ n ≡ 2 * p + 1)
half_of leaf n p is =
    let next : n + 1 ≡ suc n = omega arith in
    let half : leaf / 2 ^ n / 2 ≡ p = shr-shr leaf n 1 ∙ ap (λ k. leaf / 2 ^ k) next ∙ is in
    elim (cases_eq (leaf / 2 ^ n) (2 * p)) [ inl same ↦ inl same | inr other ↦ inr (omega (arith, half)) ]

walk_leaf : (l : List (List ℕ)) (leaf p : ℕ) (more : List Bool) (others : List (List ℕ)) → IsWalkOf l leaf zero p ((parts_of l leaf zero p).bits ++ more) more ((parts_of l leaf zero p).hashes ++ others) others
unfolding parts_of walk with_hash level_at
walk_leaf l leaf p more others = record {
  walked = record { hash = node_at 0 p l; matched = if p == leaf then node_at 0 p l ∷ [] else []; twins = false; nodes = []; bits = more; hashes = others };
  is = refl;
  hash_is = refl;
  twins_are = refl;
  bits_are = refl;
  hashes_are = refl;
  matched_has = λ on lt. at on;
}
  where
    at : leaf / 2 ^ 0 ≡ p → Among (if p == leaf then node_at 0 p l ∷ [] else []) (get_or l leaf [])
    at on =
        let same : p ≡ leaf = omega arith in
        subst (λ b. Among (if b then node_at 0 p l ∷ [] else []) (get_or l leaf [])) (sym (eq-eqb p leaf same)) (inl (ap (λ k. get_or l k []) same))

walk_off : (l : List (List ℕ)) (leaf n p : ℕ) (more : List Bool) (others : List (List ℕ)) → (leaf / 2 ^ suc n ≡ p → ⊥) → IsWalkOf l leaf (suc n) p ((false ∷ []) ++ more) more ((node_at (suc n) p l ∷ []) ++ others) others
unfolding walk with_hash
walk_off l leaf n p more others off = record {
  walked = record { hash = node_at (suc n) p l; matched = []; twins = false; nodes = []; bits = more; hashes = others };
  is = refl;
  hash_is = refl;
  twins_are = refl;
  bits_are = refl;
  hashes_are = refl;
  matched_has = λ on lt. absurd (off on);
}

walk_one : (l : List (List ℕ)) (leaf n p : ℕ) (a : Parts) (more : List Bool) (others : List (List ℕ)) → p * 2 ^ suc n < length l → is_there (length l) n (2 * p + 1) ≡ false
    → IsWalkOf l leaf n (2 * p) (a.bits ++ more) more (a.hashes ++ others) others → IsWalkOf l leaf (suc n) p ((one_child a).bits ++ more) more ((one_child a).hashes ++ others) others
unfolding walk with_left
walk_one l leaf n p a more others lt there left =
    let over : length l ≤ (2 * p + 1) * 2 ^ n = ltb-false ((2 * p + 1) * 2 ^ n) (length l) there in
    record {
      walked = with_left left.walked;
      is = rw (left.is, there) refl;
      hash_is = (λ i. hash_of (left.hash_is i ++ left.hash_is i)) ∙ sym (at_suc (suc n) n p l refl ∙ next_left (level_at n l) p (level_there n (2 * p) l (omega (arith, twice p n))) (level_over n (2 * p + 1) l over));
      twins_are = left.twins_are;
      bits_are = left.bits_are;
      hashes_are = left.hashes_are;
      matched_has = λ on under. elim (half_of leaf n p on) [
        | inl even ↦ left.matched_has even under
        | inr odd ↦ absurd (omega (arith, over, div-mul-le_self leaf (2 ^ n), ap (λ k. k * 2 ^ n) odd))
      ];
    }

walk_both : (l : List (List ℕ)) (leaf n p : ℕ) (a b : Parts) (more : List Bool) (others : List (List ℕ)) → is_mutated l ≡ false → is_there (length l) n (2 * p + 1) ≡ true
    → IsWalkOf l leaf n (2 * p) (a.bits ++ (b.bits ++ more)) (b.bits ++ more) (a.hashes ++ (b.hashes ++ others)) (b.hashes ++ others)
    → IsWalkOf l leaf n (2 * p + 1) (b.bits ++ more) more (b.hashes ++ others) others → IsWalkOf l leaf (suc n) p ((joined_parts a b).bits ++ more) more ((joined_parts a b).hashes ++ others) others
unfolding walk with_both
walk_both l leaf n p a b more others clean there left right =
    let lt : (2 * p + 1) * 2 ^ n < length l = ltb-true ((2 * p + 1) * 2 ^ n) (length l) there in
    let two : 2 * p + 1 < length (level_at n l) = level_there n (2 * p + 1) l lt in
    let left_is : walk (length l) n (2 * p) ((a.bits ++ b.bits) ++ more) ((a.hashes ++ b.hashes) ++ others) ≡ Some left.walked =
    (λ i. walk (length l) n (2 * p) (append_assoc a.bits b.bits more i) (append_assoc a.hashes b.hashes others i)) ∙ left.is in
    let right_is : walk (length l) n (2 * p + 1) left.walked.bits left.walked.hashes ≡ Some right.walked = (λ i. walk (length l) n (2 * p + 1) (left.bits_are i) (left.hashes_are i)) ∙ right.is in
    let apart : pointwise nat_eq left.walked.hash right.walked.hash ≡ false = (λ i. pointwise nat_eq (left.hash_is i) (right.hash_is i)) ∙ no_pair (level_at n l) p (level_clean n l clean (omega arith)) two in
    record {
      walked = with_both left.walked right.walked;
      is = rw (left_is, there, right_is) refl;
      hash_is = (λ i. hash_of (left.hash_is i ++ right.hash_is i)) ∙ sym (at_suc (suc n) n p l refl ∙ next_both (level_at n l) p two);
      twins_are = or_from (pointwise nat_eq left.walked.hash right.walked.hash) (left.walked.twins || right.walked.twins) apart (or_from left.walked.twins right.walked.twins left.twins_are right.twins_are);
      bits_are = right.bits_are;
      hashes_are = right.hashes_are;
      matched_has = λ on under. elim (half_of leaf n p on) [
        | inl even ↦ among_left left.walked.matched right.walked.matched (get_or l leaf []) (left.matched_has even under)
        | inr odd ↦ among_right left.walked.matched right.walked.matched (get_or l leaf []) (right.matched_has odd under)
      ];
    }

pub made_walk : (l : List (List ℕ)) (leaf n p : ℕ) (more : List Bool) (others : List (List ℕ)) → is_mutated l ≡ false → p * 2 ^ n < length l
    → IsWalkOf l leaf n p ((parts_of l leaf n p).bits ++ more) more ((parts_of l leaf n p).hashes ++ others) others
unfolding parts_of
made_walk l leaf zero p more others clean lt = walk_leaf l leaf p more others
made_walk l leaf (suc n) p more others clean lt =
    at (leaf / 2 ^ suc n == p) (is_there (length l) n (2 * p + 1)) refl refl
    (λ m o. made_walk l leaf n (2 * p) m o clean (omega (arith, twice p n)))
    (λ there m o. made_walk l leaf n (2 * p + 1) m o clean (ltb-true ((2 * p + 1) * 2 ^ n) (length l) there))
  where
    at : (t there : Bool) → (leaf / 2 ^ suc n == p) ≡ t → is_there (length l) n (2 * p + 1) ≡ there
        → ((m : List Bool) (o : List (List ℕ)) → IsWalkOf l leaf n (2 * p) ((parts_of l leaf n (2 * p)).bits ++ m) m ((parts_of l leaf n (2 * p)).hashes ++ o) o)
        → (is_there (length l) n (2 * p + 1) ≡ true → (m : List Bool) (o : List (List ℕ)) → IsWalkOf l leaf n (2 * p + 1) ((parts_of l leaf n (2 * p + 1)).bits ++ m) m ((parts_of l leaf n (2 * p + 1)).hashes ++ o) o)
        → IsWalkOf l leaf (suc n) p
        ((if t then (if there then joined_parts (parts_of l leaf n (2 * p)) (parts_of l leaf n (2 * p + 1)) else one_child (parts_of l leaf n (2 * p))) else record { bits = false ∷ []; hashes = node_at (suc n) p l ∷ [] }).bits ++ more) more
        ((if t then (if there then joined_parts (parts_of l leaf n (2 * p)) (parts_of l leaf n (2 * p + 1)) else one_child (parts_of l leaf n (2 * p))) else record { bits = false ∷ []; hashes = node_at (suc n) p l ∷ [] }).hashes ++ others) others
    at false there on is left right = walk_off l leaf n p more others (eqb-false (leaf / 2 ^ suc n) p on)
    at true false on is left right = walk_one l leaf n p (parts_of l leaf n (2 * p)) more others lt is (left more others)
    at true true on is left right =
        walk_both l leaf n p (parts_of l leaf n (2 * p)) (parts_of l leaf n (2 * p + 1)) more others clean is (left ((parts_of l leaf n (2 * p + 1)).bits ++ more) ((parts_of l leaf n (2 * p + 1)).hashes ++ others)) (right is more others)

-- how many hashes and bits there are
pub record AreFew (l : List (List ℕ)) (n p : ℕ) (made : Parts) : Type 0 where
  pub wide : length made.hashes ≤ 2 ^ n
  pub within : p * 2 ^ n + length made.hashes ≤ length l
  pub bits : length made.hashes ≤ length made.bits
  pub few_bits : length made.bits + 1 ≤ 2 ^ suc n

pub parts_few : (l : List (List ℕ)) (leaf n p : ℕ) → p * 2 ^ n < length l → AreFew l n p (parts_of l leaf n p)
unfolding parts_of
parts_few l leaf zero p lt = record { wide = omega arith; within = omega arith; bits = omega arith; few_bits = omega arith }
parts_few l leaf (suc n) p lt = at (leaf / 2 ^ suc n == p) (is_there (length l) n (2 * p + 1)) refl (parts_few l leaf n (2 * p) (omega (arith, twice p n))) (λ there. parts_few l leaf n (2 * p + 1) (ltb-true ((2 * p + 1) * 2 ^ n) (length l) there))
  where
    at : (t there : Bool) → is_there (length l) n (2 * p + 1) ≡ there → AreFew l n (2 * p) (parts_of l leaf n (2 * p)) → (is_there (length l) n (2 * p + 1) ≡ true → AreFew l n (2 * p + 1) (parts_of l leaf n (2 * p + 1)))
        → AreFew l (suc n) p (if t then (if there then joined_parts (parts_of l leaf n (2 * p)) (parts_of l leaf n (2 * p + 1)) else one_child (parts_of l leaf n (2 * p))) else record { bits = false ∷ []; hashes = node_at (suc n) p l ∷ [] })
    at false there is left right = record { wide = omega (arith, pow_pos (suc n)); within = omega arith; bits = omega arith; few_bits = omega (arith, two-pow-succ (suc n), pow_pos (suc n)) }
    at true false is left right =
        let wide : length (parts_of l leaf n (2 * p)).hashes ≤ 2 ^ n = left.wide in
        let within : 2 * p * 2 ^ n + length (parts_of l leaf n (2 * p)).hashes ≤ length l = left.within in
        let bits : length (parts_of l leaf n (2 * p)).hashes ≤ length (parts_of l leaf n (2 * p)).bits = left.bits in
        let few : length (parts_of l leaf n (2 * p)).bits + 1 ≤ 2 ^ suc n = left.few_bits in
        record { wide = omega (arith, two-pow-succ n); within = omega (arith, twice p n); bits = omega arith; few_bits = omega (arith, two-pow-succ (suc n), pow_pos (suc n)) }
    at true true is left right =
        let r = right is in
        let wide : length (parts_of l leaf n (2 * p)).hashes ≤ 2 ^ n = left.wide in
        let bits : length (parts_of l leaf n (2 * p)).hashes ≤ length (parts_of l leaf n (2 * p)).bits = left.bits in
        let wide2 : length (parts_of l leaf n (2 * p + 1)).hashes ≤ 2 ^ n = r.wide in
        let within2 : (2 * p + 1) * 2 ^ n + length (parts_of l leaf n (2 * p + 1)).hashes ≤ length l = r.within in
        let bits2 : length (parts_of l leaf n (2 * p + 1)).hashes ≤ length (parts_of l leaf n (2 * p + 1)).bits = r.bits in
        let hashes : length ((parts_of l leaf n (2 * p)).hashes ++ (parts_of l leaf n (2 * p + 1)).hashes) ≡ length (parts_of l leaf n (2 * p)).hashes + length (parts_of l leaf n (2 * p + 1)).hashes = length-append (parts_of l leaf n (2 * p)).hashes (parts_of l leaf n (2 * p + 1)).hashes in
        let all_bits : length ((parts_of l leaf n (2 * p)).bits ++ (parts_of l leaf n (2 * p + 1)).bits) ≡ length (parts_of l leaf n (2 * p)).bits + length (parts_of l leaf n (2 * p + 1)).bits = length-append (parts_of l leaf n (2 * p)).bits (parts_of l leaf n (2 * p + 1)).bits in
        let few : length (parts_of l leaf n (2 * p)).bits + 1 ≤ 2 ^ suc n = left.few_bits in
        let few2 : length (parts_of l leaf n (2 * p + 1)).bits + 1 ≤ 2 ^ suc n = r.few_bits in
        record { wide = omega (arith, two-pow-succ n); within = omega (arith, twice p n, hashes); bits = omega arith; few_bits = omega (arith, two-pow-succ (suc n), all_bits) }
