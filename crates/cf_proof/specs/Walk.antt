-- statement: the walk through a partial Merkle tree, depth first: BIP 37 "Parsing a partial merkle tree object".
use Rattle.std.specs.Prelude.{ℕ, zero, suc, ◌+◌, ◌*◌, nat_eq, Bool, true, false, ◌||◌, if◌then◌else◌, List, [], ◌∷◌, ◌++◌, Option, Some, None}
use Rattle.std.specs.Option.{option_and_then, option_map}
use Rattle.std.specs.Cmp.Lexicographic.{pointwise}
use Rattle.cf_bytes.specs.Hash.{hash_of}
use Rattle.cf_proof.specs.Tree.{is_there}

-- What the walk through the nodes below one node gives: its hash, the leaves that are matched, whether two children that are both there are
-- equal, all strings that were hashed, and the bits and hashes that are left.
pub record Walked : Type 0 where
  pub hash : List ℕ
  pub matched : List (List ℕ)
  pub twins : Bool
  pub nodes : List (List ℕ)
  pub bits : List Bool
  pub hashes : List (List ℕ)

-- a node that takes a hash, and is a leaf that is matched, or isn't
unfoldable pub with_hash : Bool → List Bool → List (List ℕ) → Option Walked
with_hash matched bits [] = None
with_hash matched bits (h ∷ hashes) = Some (record { hash = h; matched = if matched then h ∷ [] else []; twins = false; nodes = []; bits = bits; hashes = hashes })

-- a node with two children
unfoldable pub with_both : Walked → Walked → Walked
with_both left right = record {
  hash = hash_of (left.hash ++ right.hash);
  matched = left.matched ++ right.matched;
  twins = pointwise nat_eq left.hash right.hash || (left.twins || right.twins);
  nodes = (left.hash ++ right.hash) ∷ (left.nodes ++ right.nodes);
  bits = right.bits;
  hashes = right.hashes;
}

-- a node whose right child isn't there: the left one stands for it
unfoldable pub with_left : Walked → Walked
with_left left = record {
  hash = hash_of (left.hash ++ left.hash);
  matched = left.matched;
  twins = left.twins;
  nodes = (left.hash ++ left.hash) ∷ left.nodes;
  bits = left.bits;
  hashes = left.hashes;
}

-- The walk from a node on, over so many leaves; there is none where a bit or a hash is missing. A node takes a bit. A leaf, and any node
-- whose bit is 0, takes a hash. Else the children follow, the right one only where it is there.
unfoldable pub walk : ℕ → ℕ → ℕ → List Bool → List (List ℕ) → Option Walked
walk total height place [] hashes = None
walk total zero place (b ∷ bits) hashes = with_hash b bits hashes
walk total (suc n) place (false ∷ bits) hashes = with_hash false bits hashes
walk total (suc n) place (true ∷ bits) hashes =
    option_and_then (λ left. if is_there total n (2 * place + 1) then option_map (λ right. with_both left right) (walk total n (2 * place + 1) left.bits left.hashes) else Some (with_left left))
    (walk total n (2 * place) bits hashes)
