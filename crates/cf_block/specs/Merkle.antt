-- statement: Merkle trees over hashes, level by level (Bitcoin developer reference, "Merkle Trees").
use Rattle.std.specs.Prelude.{◌≡◌, ◌≢◌, ℕ, zero, suc, ◌<◌, Bool, true, false, ◌||◌, nat_le, if◌then◌else◌, List, [], ◌∷◌, ◌++◌, map, length, nat_eq, ◌⊎◌}
use Rattle.std.specs.Cmp.Lexicographic.{pointwise}
use Rattle.cf_bytes.specs.Hash.{hash_of}

-- what is hashed above a level: its pairs joined, an odd last hash with itself
abbrev pub joined_pairs : List (List ℕ) → List (List ℕ)
joined_pairs [] = []
joined_pairs (a ∷ []) = (a ++ a) ∷ []
joined_pairs (a ∷ b ∷ rest) = (a ++ b) ∷ joined_pairs rest

-- the level above a level: the hashes of its pairs
abbrev pub next_level : List (List ℕ) → List (List ℕ)
next_level level = map hash_of (joined_pairs level)

-- a pair that is really there has two equal hashes
abbrev pub has_twins : List (List ℕ) → Bool
has_twins [] = false
has_twins (a ∷ []) = false
has_twins (a ∷ b ∷ rest) = pointwise nat_eq a b || has_twins rest

-- the first hash of a level; no bytes where the level is empty
abbrev pub first_of : List (List ℕ) → List ℕ
first_of [] = []
first_of (a ∷ rest) = a

-- the root, at most so many levels above
unfoldable pub root_within : ℕ → List (List ℕ) → List ℕ
root_within zero level = first_of level
root_within (suc n) level = if nat_le (length level) 1 then first_of level else root_within n (next_level level)

-- the Merkle root over hashes, level by level; an odd last hash is paired with itself
abbrev pub merkle_root_of : List (List ℕ) → List ℕ
merkle_root_of level = root_within (length level) level

-- some level has twins
unfoldable pub is_mutated_within : ℕ → List (List ℕ) → Bool
is_mutated_within zero level = false
is_mutated_within (suc n) level = if nat_le (length level) 1 then false else has_twins level || is_mutated_within n (next_level level)

-- on some level two hashes that are both there and are paired are equal, so another list has the same root (CVE-2012-2459)
abbrev pub is_mutated : List (List ℕ) → Bool
is_mutated level = is_mutated_within (length level) level

-- a list of hashes is so: another one has the same root
abbrev pub IsMutated : List (List ℕ) → Type 0
IsMutated level = is_mutated level ≡ true

-- all strings that are hashed above a level
unfoldable pub nodes_within : ℕ → List (List ℕ) → List (List ℕ)
nodes_within zero level = []
nodes_within (suc n) level = if nat_le (length level) 1 then [] else joined_pairs level ++ nodes_within n (next_level level)

-- all strings that are hashed on the way from hashes up to their root
abbrev pub nodes : List (List ℕ) → List (List ℕ)
nodes level = nodes_within (length level) level

-- the txids of spelled transactions
abbrev pub txids : List (List ℕ) → List (List ℕ)
txids spelled = map hash_of spelled

-- all strings that are hashed below a root
abbrev pub hashed : List (List ℕ) → List (List ℕ)
hashed spelled = spelled ++ nodes (txids spelled)

-- a string stands in a list
abbrev pub Among : List (List ℕ) → List ℕ → Type 0
Among [] s = ⊥
Among (x ∷ xs) s = (x ≡ s) ⊎ Among xs s

-- no two different strings of the list have one hash
abbrev pub NoClash : List (List ℕ) → Type 0
NoClash strings = (a b : List ℕ) → Among strings a → Among strings b → hash_of a ≡ hash_of b → a ≡ b

-- none of these strings has 64 bytes
abbrev pub None64 : List (List ℕ) → Type 0
None64 [] = Unit {0}
None64 (s ∷ rest) = (length s ≢ 64) × None64 rest

-- transactions that may stand under a root: there is one, their txids aren't mutated, and none has 64 bytes
pub record IsUnmutated (spelled : List (List ℕ)) : Type 0 where
  pub some : 0 < length spelled
  pub unmutated : is_mutated (txids spelled) ≡ false
  pub none64 : None64 spelled
