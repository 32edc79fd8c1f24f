-- statement: what a proof that passes says of a block.
use Rattle.std.specs.Prelude.{◌≡◌, ℕ, List, ◌∷◌, ◌++◌, Some, Result, Ok, Err}
use Rattle.cf_bytes.specs.declared.hash.Hash32.{Hash32}
use Rattle.cf_bytes.specs.declared.memory.Refused.{Refused}
use Rattle.cf_bytes.specs.declared.memory.Refused.TheVariants.{No, NoMemory}
use Rattle.cf_block.specs.Header.{block_hash_of}
use Rattle.cf_proof.specs.declared.fault.ProofFault.{ProofFault}
use Rattle.cf_block.specs.declared.tx.Tx.{Tx}
use Rattle.cf_block.specs.declared.tx.Block.{Block}
use Rattle.cf_block.specs.Tx.{tx_spelling, txid_of}
use Rattle.cf_block.specs.Merkle.{merkle_root_of, txids, hashed, NoClash, Among}
use Rattle.cf_block.specs.Commitment.{spelled_txs, IsCommitted}
use Rattle.cf_proof.specs.Walk.{Walked}
use Rattle.cf_proof.specs.declared.proof.Proof.{Proof}
use Rattle.cf_proof.specs.Checks.{Passes, walk_of}

-- a header's root is that of a list of hashes, which has this one
pub record HoldsTransaction (root : List ℕ) (hashes : List (List ℕ)) (txid : List ℕ) : Type 0 where
  pub root_is : root ≡ merkle_root_of hashes
  pub among : Among hashes txid

-- A transaction that a proof passes for stands in each block with the proof's header whose header stands for its transactions, where no two
-- different strings have one hash, of those that are hashed in the block, those that were hashed in the walk, and the transaction's own bytes.
abbrev pub Proves : List ℕ → Tx → Type 0
Proves bytes tx = (p : Proof) (w : Walked) (b : Block) → Passes bytes (tx_spelling tx) p → walk_of p ≡ Some w → IsCommitted b → b.header ≡ p.header
    → NoClash (hashed (spelled_txs b) ++ (tx_spelling tx ∷ w.nodes)) → HoldsTransaction b.header.root.0 (txids (spelled_txs b)) (txid_of tx)

-- what a check of a proof that was made answers: the hash of the block's header, or want of memory
abbrev pub AnswersHeader : Block → Result Hash32 (Refused ProofFault) → Type 0
AnswersHeader b (Ok hash) = hash.0 ≡ block_hash_of b.header
AnswersHeader b (Err (No fault)) = ⊥
AnswersHeader b (Err NoMemory) = Unit {0}
