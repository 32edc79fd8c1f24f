-- What a walk that ends at a block's root says of the block.
use Rattle.std.proofs.Common.{◌≡◌, ℕ, zero, suc, ◌+◌, ◌*◌, ◌<◌, ◌≤◌, Bool, true, false, List, [], ◌∷◌, ◌++◌, length, take, map, get_or, Option, Some, None, ◌⊎◌, inl, inr, refl, sym, ◌∙◌, ap, subst, arith}
use Rattle.std.specs.Prelude.{◌≢◌, if◌then◌else◌}
use Rattle.std.specs.Option.{option_and_then, option_map}
use Rattle.std.proofs.lemmas.List.{length-append, append_cancel_left, take_at}
use Rattle.cf_bytes.specs.Hash.{hash_of}
use Rattle.cf_block.proofs.Roots.{length-hash_of}
use Rattle.cf_block.specs.Merkle.{joined_pairs, txids, nodes, Among, NoClash, None64}
use Rattle.cf_proof.specs.Tree.{is_there, level_at, node_at}
use Rattle.cf_proof.specs.Walk.{Walked, with_hash, with_both, with_left, walk}
use Rattle.cf_proof.proofs.Levels.{children, joined_among, among_left, among_right}

-- hashes have 32 bytes
unfoldable pub Are32 : List (List ℕ) → Type 0
Are32 [] = Unit {0}
Are32 (h ∷ hashes) = (length h ≡ 32) × Are32 hashes

-- a walk through a node whose bit is 1
record HasLeft (total n place : ℕ) (bits : List Bool) (hashes : List (List ℕ)) (w : Walked) : Type 0 where
  left : Walked
  left_is : walk total n (2 * place) bits hashes ≡ Some left
  rest : (w ≡ with_left left) ⊎ ((right : Walked) × (walk total n (2 * place + 1) left.bits left.hashes ≡ Some right) × (w ≡ with_both left right))

opened : (total n place : ℕ) (bits : List Bool) (hashes : List (List ℕ)) (w : Walked) → walk total (suc n) place (true ∷ bits) hashes ≡ Some w → HasLeft total n place bits hashes w
unfolding walk
opened total n place bits hashes w h = at_left (walk total n (2 * place) bits hashes) refl h
  where
    at_right : (left : Walked) (b : Bool) (o : Option Walked) → walk total n (2 * place) bits hashes ≡ Some left → walk total n (2 * place + 1) left.bits left.hashes ≡ o
        → (if b then option_map (λ right. with_both left right) o else Some (with_left left)) ≡ Some w → HasLeft total n place bits hashes w
    at_right left true None is right_is h = cc
    at_right left true (Some right) is right_is h = record { left = left; left_is = is; rest = inr (right, right_is, cc) }
    at_right left false o is right_is h = record { left = left; left_is = is; rest = inl (cc) }

    at_left : (o : Option Walked) → walk total n (2 * place) bits hashes ≡ o
        → option_and_then (λ left. if is_there total n (2 * place + 1) then option_map (λ right. with_both left right) (walk total n (2 * place + 1) left.bits left.hashes) else Some (with_left left)) o ≡ Some w → HasLeft total n place bits hashes w
    at_left None is h = cc
    at_left (Some left) is h = at_right left (is_there total n (2 * place + 1)) (walk total n (2 * place + 1) left.bits left.hashes) is refl h

-- a node that takes a hash
hash_taken : (b : Bool) (bits : List Bool) (hashes : List (List ℕ)) (w : Walked) → with_hash b bits hashes ≡ Some w → Are32 hashes → (length w.hash ≡ 32) × Are32 w.hashes
unfolding with_hash Are32
hash_taken b bits [] w h are = cc
hash_taken b bits (x ∷ hashes) w h are =
    let hash : w.hash ≡ x = ap (λ o. hash_in o) (sym h) in
    let rest : w.hashes ≡ hashes = ap (λ o. hashes_in o) (sym h) in
    (ap length hash ∙ are.0, subst Are32 (sym rest) are.1)
  where
    hash_in : Option Walked → List ℕ
    hash_in None = x
    hash_in (Some v) = v.hash

    hashes_in : Option Walked → List (List ℕ)
    hashes_in None = hashes
    hashes_in (Some v) = v.hashes

-- the hashes of a walk have 32 bytes
walk_32 : (total n place : ℕ) (bits : List Bool) (hashes : List (List ℕ)) (w : Walked) → walk total n place bits hashes ≡ Some w → Are32 hashes → (length w.hash ≡ 32) × Are32 w.hashes
unfolding walk with_left with_both
walk_32 total zero place [] hashes w h are = cc
walk_32 total zero place (b ∷ bits) hashes w h are = hash_taken b bits hashes w h are
walk_32 total (suc n) place [] hashes w h are = cc
walk_32 total (suc n) place (false ∷ bits) hashes w h are = hash_taken false bits hashes w h are
walk_32 total (suc n) place (true ∷ bits) hashes w h are =
    let o = opened total n place bits hashes w h in
    let left = walk_32 total n (2 * place) bits hashes o.left o.left_is are in
    elim o.rest [
      | inl is ↦ subst (λ v. (length v.hash ≡ 32) × Are32 v.hashes) (sym is) (length-hash_of (o.left.hash ++ o.left.hash), left.1)
      | inr r ↦ subst (λ v. (length v.hash ≡ 32) × Are32 v.hashes) (sym r.2) (length-hash_of (o.left.hash ++ r.0.hash), (walk_32 total n (2 * place + 1) o.left.bits o.left.hashes r.0 r.1 left.1).1)
    ]

-- strings that have a block's and don't clash
pub record HasBlock (strings spelled : List (List ℕ)) : Type 0 where
  pub apart : NoClash strings
  pub spelled_in : (s : List ℕ) → Among spelled s → Among strings s
  pub nodes_in : (s : List ℕ) → Among (nodes (txids spelled)) s → Among strings s
  pub none64 : None64 spelled

-- a leaf is the hash of a transaction of another length
record IsLeaf (spelled : List (List ℕ)) (leaf : List ℕ) : Type 0 where
  text : List ℕ
  among : Among spelled text
  hash : leaf ≡ hash_of text
  other : length text ≢ 64

leaf_of : (spelled : List (List ℕ)) (i : ℕ) → None64 spelled → i < length (txids spelled) → IsLeaf spelled (get_or (txids spelled) i [])
leaf_of [] i none lt = absurd (omega arith)
leaf_of (s ∷ spelled) zero none lt = record { text = s; among = inl refl; hash = refl; other = none.0 }
leaf_of (s ∷ spelled) (suc i) none lt =
    let below = leaf_of spelled i none.1 (omega arith) in
    record { text = below.text; among = inr below.among; hash = below.hash; other = below.other }

leaf_among : (l : List (List ℕ)) (i : ℕ) → i < length l → Among l (get_or l i [])
leaf_among [] i lt = absurd (omega arith)
leaf_among (x ∷ l) zero lt = inl refl
leaf_among (x ∷ l) (suc i) lt = inr (leaf_among l i (omega arith))

mapped_32 : (strings : List (List ℕ)) (i : ℕ) → i < length (map hash_of strings) → length (get_or (map hash_of strings) i []) ≡ 32
mapped_32 [] i lt = absurd (omega arith)
mapped_32 (s ∷ strings) zero lt = length-hash_of s
mapped_32 (s ∷ strings) (suc i) lt = mapped_32 strings i (omega arith)

pub node_32 : (spelled : List (List ℕ)) (m q : ℕ) → q < length (level_at m (txids spelled)) → length (node_at m q (txids spelled)) ≡ 32
unfolding level_at
node_32 spelled zero q lt = mapped_32 spelled q lt
node_32 spelled (suc m) q lt = mapped_32 (joined_pairs (level_at m (txids spelled))) q lt

same_parts : (a b x y : List ℕ) → a ++ b ≡ x ++ y → length a ≡ length x → (a ≡ x) × (b ≡ y)
same_parts a b x y h le =
    let front : a ≡ x = sym (take_at a b (length a) refl) ∙ ap (take (length a)) h ∙ take_at x y (length a) (sym le) in
    (front, append_cancel_left x b y (sym (ap (λ s. s ++ b) front) ∙ h))

-- two hashes, joined, have 64 bytes
joined_64 : (a b : List ℕ) → length a ≡ 32 → length b ≡ 32 → length (a ++ b) ≡ 64
joined_64 a b la lb = length-append a b ∙ omega arith

-- a matched leaf that is a node of the block is one of its leaves
matched_here : (tx : List ℕ) (strings spelled : List (List ℕ)) → HasBlock strings spelled → Among strings tx → length tx ≢ 64 → (m q : ℕ) → q < length (level_at m (txids spelled)) → ((k : ℕ) → k < m → 2 ≤ length (level_at k (txids spelled)))
    → node_at m q (txids spelled) ≡ hash_of tx → Among (txids spelled) (hash_of tx)
unfolding level_at
matched_here tx strings spelled has tx_in other zero q lt many is = subst (Among (txids spelled)) is (leaf_among (txids spelled) q lt)
matched_here tx strings spelled has tx_in other (suc m) q lt many is =
    let below : List (List ℕ) = level_at m (txids spelled) in
    let c = children below q lt in
    let node = has.nodes_in (get_or below (2 * q) [] ++ get_or below c.right []) (joined_among m (length (txids spelled)) (txids spelled) _ (omega arith) (many m (omega arith)) c.among) in
    let same = has.apart (get_or below (2 * q) [] ++ get_or below c.right []) tx node tx_in (sym c.hash_is ∙ is) in
    absurd (other (ap length (sym same) ∙ joined_64 (get_or below (2 * q) []) (get_or below c.right []) (node_32 spelled m (2 * q) c.left_there) (node_32 spelled m c.right c.right_there)))

-- a node of the walk and one of the block with one hash have the same children
record SameChildren (spelled : List (List ℕ)) (left right : List ℕ) : Type 0 where
  m : ℕ
  left_place : ℕ
  right_place : ℕ
  left_there : left_place < length (level_at m (txids spelled))
  right_there : right_place < length (level_at m (txids spelled))
  left_is : node_at m left_place (txids spelled) ≡ left
  right_is : node_at m right_place (txids spelled) ≡ right
  many : (k : ℕ) → k < m → 2 ≤ length (level_at k (txids spelled))

same_children : (strings spelled : List (List ℕ)) → HasBlock strings spelled → (left right : List ℕ) → Among strings (left ++ right) → length left ≡ 32 → length right ≡ 32
    → (m q : ℕ) → q < length (level_at m (txids spelled)) → ((k : ℕ) → k < m → 2 ≤ length (level_at k (txids spelled))) → node_at m q (txids spelled) ≡ hash_of (left ++ right) → SameChildren spelled left right
unfolding level_at
same_children strings spelled has left right inside l32 r32 zero q lt many is =
    let leaf = leaf_of spelled q has.none64 lt in
    let same = has.apart leaf.text (left ++ right) (has.spelled_in leaf.text leaf.among) inside (sym leaf.hash ∙ is) in
    absurd (leaf.other (ap length same ∙ joined_64 left right l32 r32))
same_children strings spelled has left right inside l32 r32 (suc m) q lt many is =
    let below : List (List ℕ) = level_at m (txids spelled) in
    let c = children below q lt in
    let node = has.nodes_in (get_or below (2 * q) [] ++ get_or below c.right []) (joined_among m (length (txids spelled)) (txids spelled) _ (omega arith) (many m (omega arith)) c.among) in
    let same = has.apart (get_or below (2 * q) [] ++ get_or below c.right []) (left ++ right) node inside (sym c.hash_is ∙ is) in
    let parts = same_parts (get_or below (2 * q) []) (get_or below c.right []) left right same (node_32 spelled m (2 * q) c.left_there ∙ sym l32) in
    record {
      m = m;
      left_place = 2 * q;
      right_place = c.right;
      left_there = c.left_there;
      right_there = c.right_there;
      left_is = parts.0;
      right_is = parts.1;
      many = λ k lt. many k (omega arith);
    }

among_parts : (xs ys : List (List ℕ)) (s : List ℕ) → Among (xs ++ ys) s → Among xs s ⊎ Among ys s
among_parts [] ys s h = inr h
among_parts (x ∷ xs) ys s h = elim h [ inl is ↦ inl (inl is) | inr later ↦ (elim (among_parts xs ys s later) [ inl front ↦ inl (inr front) | inr back ↦ inr back ]) ]

not_matched : (bits : List Bool) (hashes : List (List ℕ)) (w : Walked) (x : List ℕ) → with_hash false bits hashes ≡ Some w → Among w.matched x → ⊥
unfolding with_hash
not_matched bits [] w x h m = none_some h
  where
    none_some : ◌≡◌ {A = Option Walked} None (Some w) → ⊥
    none_some h = cc
not_matched bits (y ∷ hashes) w x h m =
    let none : w.matched ≡ [] = ap matched_in (sym h) in
    subst (λ l. Among l x) none m
  where
    matched_in : Option Walked → List (List ℕ)
    matched_in None = []
    matched_in (Some v) = v.matched

leaf_matched : (bits : List Bool) (hashes : List (List ℕ)) (w : Walked) (x : List ℕ) → with_hash true bits hashes ≡ Some w → Among w.matched x → w.hash ≡ x
unfolding with_hash
leaf_matched bits [] w x h m = absurd (none_some h)
  where
    none_some : ◌≡◌ {A = Option Walked} None (Some w) → ⊥
    none_some h = cc
leaf_matched bits (y ∷ hashes) w x h m =
    let one : w.matched ≡ w.hash ∷ [] = ap matched_in (sym h) ∙ ap (λ v. v ∷ []) (sym (ap hash_in (sym h))) in
    elim (subst (λ l. Among l x) one m) [ inl is ↦ is | inr later ↦ absurd later ]
  where
    matched_in : Option Walked → List (List ℕ)
    matched_in None = []
    matched_in (Some v) = v.matched

    hash_in : Option Walked → List ℕ
    hash_in None = y
    hash_in (Some v) = v.hash

-- a leaf that a walk matches is one of the block's, where the walk's root is a node of the block
pub sound : (total n place : ℕ) (bits : List Bool) (hashes : List (List ℕ)) (w : Walked) (tx : List ℕ) (strings spelled : List (List ℕ)) → HasBlock strings spelled → Among strings tx → length tx ≢ 64 → Are32 hashes
    → walk total n place bits hashes ≡ Some w → ((s : List ℕ) → Among w.nodes s → Among strings s) → (m q : ℕ) → q < length (level_at m (txids spelled)) → ((k : ℕ) → k < m → 2 ≤ length (level_at k (txids spelled)))
    → node_at m q (txids spelled) ≡ w.hash → Among w.matched (hash_of tx) → Among (txids spelled) (hash_of tx)
unfolding walk with_left with_both
sound total zero place [] hashes w tx strings spelled has tx_in other are h inside m q lt many is found = cc
sound total zero place (false ∷ bits) hashes w tx strings spelled has tx_in other are h inside m q lt many is found = absurd (not_matched bits hashes w (hash_of tx) h found)
sound total zero place (true ∷ bits) hashes w tx strings spelled has tx_in other are h inside m q lt many is found =
    matched_here tx strings spelled has tx_in other m q lt many (is ∙ leaf_matched bits hashes w (hash_of tx) h found)
sound total (suc n) place [] hashes w tx strings spelled has tx_in other are h inside m q lt many is found = cc
sound total (suc n) place (false ∷ bits) hashes w tx strings spelled has tx_in other are h inside m q lt many is found = absurd (not_matched bits hashes w (hash_of tx) h found)
sound total (suc n) place (true ∷ bits) hashes w tx strings spelled has tx_in other are h inside m q lt many is found =
    let o = opened total n place bits hashes w h in
    let left_32 = walk_32 total n (2 * place) bits hashes o.left o.left_is are in
    elim o.rest [
      | inl w_is ↦ (
          let nodes_is : w.nodes ≡ (o.left.hash ++ o.left.hash) ∷ o.left.nodes = ap (λ v. v.nodes) w_is in
          let in_all : (s : List ℕ) → Among ((o.left.hash ++ o.left.hash) ∷ o.left.nodes) s → Among strings s = λ s a. inside s (subst (λ l. Among l s) (sym nodes_is) a) in
          let c = same_children strings spelled has o.left.hash o.left.hash (in_all (o.left.hash ++ o.left.hash) (inl refl)) left_32.0 left_32.0 m q lt many (is ∙ ap (λ v. v.hash) w_is) in
          sound total n (2 * place) bits hashes o.left tx strings spelled has tx_in other are o.left_is (λ s a. in_all s (inr a)) c.m c.left_place c.left_there c.many c.left_is (subst (λ v. Among v.matched (hash_of tx)) w_is found))
      | inr r ↦ (
          let right : Walked = r.0 in
          let right_32 = walk_32 total n (2 * place + 1) o.left.bits o.left.hashes right r.1 left_32.1 in
          let nodes_is : w.nodes ≡ (o.left.hash ++ right.hash) ∷ (o.left.nodes ++ right.nodes) = ap (λ v. v.nodes) r.2 in
          let in_all : (s : List ℕ) → Among ((o.left.hash ++ right.hash) ∷ (o.left.nodes ++ right.nodes)) s → Among strings s = λ s a. inside s (subst (λ l. Among l s) (sym nodes_is) a) in
          let c = same_children strings spelled has o.left.hash right.hash (in_all (o.left.hash ++ right.hash) (inl refl)) left_32.0 right_32.0 m q lt many (is ∙ ap (λ v. v.hash) r.2) in
          elim (among_parts o.left.matched right.matched (hash_of tx) (subst (λ v. Among v.matched (hash_of tx)) r.2 found)) [
            | inl in_left ↦ sound total n (2 * place) bits hashes o.left tx strings spelled has tx_in other are o.left_is (λ s a. in_all s (inr (among_left o.left.nodes right.nodes s a))) c.m c.left_place c.left_there c.many c.left_is in_left
            | inr in_right ↦ sound total n (2 * place + 1) o.left.bits o.left.hashes right tx strings spelled has tx_in other left_32.1 r.1 (λ s a. in_all s (inr (among_right o.left.nodes right.nodes s a))) c.m c.right_place c.right_there c.many c.right_is in_right
          ])
    ]
