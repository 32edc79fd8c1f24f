-- The levels of a tree, and the strings that are hashed in it.
use Rattle.std.proofs.Common.{◌≡◌, ℕ, zero, suc, ◌+◌, ◌*◌, ◌/◌, ◌<◌, ◌≤◌, Bool, true, false, List, [], ◌∷◌, ◌++◌, length, get_or, inl, inr, refl, sym, ◌∙◌, ap, subst, arith}
use Rattle.std.specs.Prelude.{nat_le, if◌then◌else◌}
use Rattle.std.proofs.lemmas.Bool.{lt-leb, leb-true, leb-false}
use Rattle.std.proofs.lemmas.List.{length-map}
use Rattle.cf_bytes.specs.Hash.{hash_of}
use Rattle.cf_block.specs.Merkle.{joined_pairs, next_level, first_of, root_within, merkle_root_of, nodes_within, Among}
use Rattle.cf_proof.specs.Tree.{height_within, height_of, level_at, node_at}

-- the level above the next one
pub level_shift : (n : ℕ) (l : List (List ℕ)) → level_at n (next_level l) ≡ level_at (suc n) l
unfolding level_at
level_shift zero l = refl
level_shift (suc n) l = ap next_level (level_shift n l)

length_joined : (l : List (List ℕ)) → length (joined_pairs l) ≡ (length l + 1) / 2
length_joined [] = refl
length_joined (a ∷ []) = refl
length_joined (a ∷ b ∷ rest) = let r = length_joined rest in omega (arith, r)

pub length_next : (l : List (List ℕ)) → length (next_level l) ≡ (length l + 1) / 2
length_next l = length-map (joined_pairs l) hash_of ∙ length_joined l

-- the root is the node at the root's height
root_at : (n : ℕ) (l : List (List ℕ)) → root_within n l ≡ get_or (level_at (height_within n (length l)) l) 0 []
unfolding root_within height_within level_at
root_at zero [] = refl
root_at zero (a ∷ l) = refl
root_at (suc n) l = at (nat_le (length l) 1) refl (root_at n (next_level l))
  where
    first : (l : List (List ℕ)) → first_of l ≡ get_or l 0 []
    first [] = refl
    first (a ∷ l) = refl

    at : (b : Bool) → nat_le (length l) 1 ≡ b → root_within n (next_level l) ≡ get_or (level_at (height_within n (length (next_level l))) (next_level l)) 0 []
        → (if b then first_of l else root_within n (next_level l)) ≡ get_or (level_at (if b then zero else suc (height_within n ((length l + 1) / 2))) l) 0 []
    at true is below = first l
    at false is below =
        below ∙ ap (λ k. get_or (level_at (height_within n k) (next_level l)) 0 []) (length_next l) ∙ ap (λ s. get_or s 0 []) (level_shift (height_within n ((length l + 1) / 2)) l)

pub root_is : (l : List (List ℕ)) → merkle_root_of l ≡ node_at (height_of (length l)) 0 l
unfolding root_within height_within level_at
root_is l = root_at (length l) l ∙ at (nat_le (length l) 1) refl
  where
    at : (b : Bool) → nat_le (length l) 1 ≡ b → get_or (level_at (height_within (length l) (length l)) l) 0 [] ≡ node_at (height_of (length l)) 0 l
    at b is = refl

-- below the root's height there are two nodes or more
pub two_below : (m n : ℕ) (l : List (List ℕ)) → m < height_within n (length l) → 2 ≤ length (level_at m l)
unfolding height_within level_at
two_below m zero l lt = absurd (omega arith)
two_below zero (suc n) l lt = at (nat_le (length l) 1) refl lt
  where
    at : (b : Bool) → nat_le (length l) 1 ≡ b → 0 < (if b then zero else suc (height_within n ((length l + 1) / 2))) → 2 ≤ length l
    at true is lt = absurd (omega arith)
    at false is lt = leb-false (length l) 1 is
two_below (suc m) (suc n) l lt = subst (λ s. 2 ≤ length s) (level_shift m l) (at (nat_le (length l) 1) refl lt (two_below m n (next_level l)))
  where
    at : (b : Bool) → nat_le (length l) 1 ≡ b → suc m < (if b then zero else suc (height_within n ((length l + 1) / 2))) → (m < height_within n (length (next_level l)) → 2 ≤ length (level_at m (next_level l))) → 2 ≤ length (level_at m (next_level l))
    at true is lt below = absurd (omega arith)
    at false is lt below = below (omega (arith, ap (height_within n) (length_next l)))

-- a node above others: its place, its left child, and its right one, which is the left one again where there is no other
pub record HasChildren (l : List (List ℕ)) (place : ℕ) : Type 0 where
  pub right : ℕ
  pub left_there : 2 * place < length l
  pub right_there : right < length l
  pub hash_is : get_or (next_level l) place [] ≡ hash_of (get_or l (2 * place) [] ++ get_or l right [])
  pub among : Among (joined_pairs l) (get_or l (2 * place) [] ++ get_or l right [])

pub children : (l : List (List ℕ)) (place : ℕ) → place < length (next_level l) → HasChildren l place
children [] place lt = absurd (omega arith)
children (a ∷ []) zero lt = record { right = 0; left_there = omega arith; right_there = omega arith; hash_is = refl; among = inl refl }
children (a ∷ []) (suc p) lt = absurd (omega arith)
children (a ∷ b ∷ rest) zero lt = record { right = 1; left_there = omega arith; right_there = omega arith; hash_is = refl; among = inl refl }
children (a ∷ b ∷ rest) (suc p) lt =
    let below = children rest p (omega arith) in
    let twice : 2 * suc p ≡ suc (suc (2 * p)) = omega arith in
    let left_is : get_or (a ∷ b ∷ rest) (2 * suc p) [] ≡ get_or rest (2 * p) [] = ap (λ k. get_or (a ∷ b ∷ rest) k []) twice in
    let left_there : 2 * p < length rest = below.left_there in
    let right_there : below.right < length rest = below.right_there in
    record {
      right = suc (suc below.right);
      left_there = omega arith;
      right_there = omega arith;
      hash_is = below.hash_is ∙ ap (λ x. hash_of (x ++ get_or rest below.right [])) (sym left_is);
      among = inr (subst (λ x. Among (joined_pairs rest) (x ++ get_or rest below.right [])) (sym left_is) below.among);
    }

pub among_left : (xs ys : List (List ℕ)) (s : List ℕ) → Among xs s → Among (xs ++ ys) s
among_left [] ys s h = absurd h
among_left (x ∷ xs) ys s h = elim h [ inl is ↦ inl is | inr later ↦ inr (among_left xs ys s later) ]

pub among_right : (xs ys : List (List ℕ)) (s : List ℕ) → Among ys s → Among (xs ++ ys) s
among_right [] ys s h = h
among_right (x ∷ xs) ys s h = inr (among_right xs ys s h)

pub few_above : (m : ℕ) (l : List (List ℕ)) → length l ≤ 1 → length (level_at m l) ≤ 1
unfolding level_at
few_above zero l few = few
few_above (suc m) l few = let below : length (level_at m l) ≤ 1 = few_above m l few in omega (arith, length_next (level_at m l))

-- what is joined at a level is hashed in the tree
pub joined_among : (m n : ℕ) (l : List (List ℕ)) (s : List ℕ) → length l ≤ n → 2 ≤ length (level_at m l) → Among (joined_pairs (level_at m l)) s → Among (nodes_within n l) s
unfolding nodes_within level_at
joined_among m zero l s few two h = absurd (omega (arith, few_above m l (omega arith)))
joined_among zero (suc n) l s few two h =
    subst (λ b. Among (if b then [] else joined_pairs l ++ nodes_within n (next_level l)) s) (sym (lt-leb (length l) 1 two)) (among_left (joined_pairs l) (nodes_within n (next_level l)) s h)
joined_among (suc m) (suc n) l s few two h = at (nat_le (length l) 1) refl
    (joined_among m n (next_level l) s)
  where
    at : (b : Bool) → nat_le (length l) 1 ≡ b → (length (next_level l) ≤ n → 2 ≤ length (level_at m (next_level l)) → Among (joined_pairs (level_at m (next_level l))) s → Among (nodes_within n (next_level l)) s)
        → Among (if b then [] else joined_pairs l ++ nodes_within n (next_level l)) s
    at true is below = absurd (omega (arith, few_above (suc m) l (leb-true (length l) 1 is)))
    at false is below =
        let many : 1 < length l = leb-false (length l) 1 is in
        among_right (joined_pairs l) (nodes_within n (next_level l)) s
        (below (omega (arith, length_next l)) (subst (λ t. 2 ≤ length t) (sym (level_shift m l)) two) (subst (λ t. Among (joined_pairs t) s) (sym (level_shift m l)) h))
