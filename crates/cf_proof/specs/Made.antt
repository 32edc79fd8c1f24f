-- statement: the proof of one transaction of a block: BIP 37 "Constructing a partial merkle tree object".
use Rattle.std.specs.Prelude.{◌≡◌, ◌<◌, replicate, ℕ, zero, suc, ◌+◌, ◌*◌, ◌/◌, ◌^◌, ◌==◌, Bool, true, false, if◌then◌else◌, List, [], ◌∷◌, ◌++◌, length}
use Rattle.cf_block.specs.declared.tx.Block.{Block}
use Rattle.cf_block.specs.Merkle.{txids}
use Rattle.cf_block.specs.Commitment.{spelled_txs}
use Rattle.cf_block.specs.Views.{bytes_of}
use Rattle.cf_proof.specs.declared.proof.Proof.{Proof}
use Rattle.cf_proof.specs.Proof.{flags_of, proof_spelling}
use Rattle.cf_proof.specs.Tree.{height_of, is_there, node_at}

-- bits and hashes of nodes
pub record Parts : Type 0 where
  pub bits : List Bool
  pub hashes : List (List ℕ)

-- those from a node with two children on: its bit 1, and then the left child's and the right child's
abbrev pub joined_parts : Parts → Parts → Parts
joined_parts a b = record { bits = true ∷ (a.bits ++ b.bits); hashes = a.hashes ++ b.hashes }

-- those from a node with one child on: its bit 1, and then the child's
abbrev pub one_child : Parts → Parts
one_child a = record { bits = true ∷ a.bits; hashes = a.hashes }

-- Those of the nodes from one on, depth first, for the leaf at a place. A node above that leaf has bit 1 and its children follow; the leaf itself
-- has bit 1 and its hash; any other node has bit 0 and its hash.
unfoldable pub parts_of : List (List ℕ) → ℕ → ℕ → ℕ → Parts
parts_of leaves leaf zero place = record { bits = (place == leaf) ∷ []; hashes = node_at 0 place leaves ∷ [] }
parts_of leaves leaf (suc n) place =
    if leaf / 2 ^ suc n == place then (if is_there (length leaves) n (2 * place + 1) then joined_parts (parts_of leaves leaf n (2 * place)) (parts_of leaves leaf n (2 * place + 1)) else one_child (parts_of leaves leaf n (2 * place)))
    else record { bits = false ∷ []; hashes = node_at (suc n) place leaves ∷ [] }

-- those of the whole tree over a block's transactions, for the transaction at a place
abbrev pub all_parts : Block → ℕ → Parts
all_parts b place = let ids = txids (spelled_txs b) in parts_of ids place (height_of (length ids)) 0

-- bits in bytes, the last one filled up with zeros
pub record AreFlagsOf (bits : List Bool) (flags : List ℕ) : Type 0 where
  pub zeros : ℕ
  pub few : zeros < 8
  pub same : flags_of flags ≡ bits ++ replicate zeros false

-- the bytes of the proof for the transaction at a place of a block
pub record IsProofOf (b : Block) (place : ℕ) (bytes : List ℕ) : Type 0 where
  pub proof : Proof
  pub header : proof.header ≡ b.header
  pub total : proof.total ≡ length b.txs
  pub hashes : bytes_of proof.hashes ≡ (all_parts b place).hashes
  pub flags : AreFlagsOf (all_parts b place).bits proof.flags
  pub spelled : bytes ≡ proof_spelling proof
