-- statement: which transactions a header stands for (Bitcoin developer reference, "Merkle Trees").
use Rattle.std.specs.Prelude.{◌≡◌, ◌<◌, ◌==◌, ◌&&◌, ℕ, Bool, false, not, replicate, if◌then◌else◌, List, [], ◌∷◌, map, length, Option, Some, None, Result, Ok, Err, bytes_eq}
use Rattle.std.specs.List.{list_any}
use Rattle.cf_bytes.specs.declared.hash.Hash32.{Hash32}
use Rattle.cf_bytes.specs.declared.memory.Refused.{Refused}
use Rattle.cf_bytes.specs.declared.memory.Refused.TheVariants.{No, NoMemory}
use Rattle.cf_block.specs.declared.commitment.CommitFault.{CommitFault}
use Rattle.cf_block.specs.declared.commitment.CommitFault.TheVariants.{Root, Mutated, Tx64}
use Rattle.cf_block.specs.declared.tx.TxIn.{TxIn}
use Rattle.cf_block.specs.declared.tx.Tx.{Tx}
use Rattle.cf_block.specs.declared.tx.Block.{Block}
use Rattle.cf_block.specs.Tx.{tx_spelling, txid_of}
use Rattle.cf_block.specs.Views.{bytes_of}
use Rattle.cf_block.specs.Merkle.{merkle_root_of, is_mutated, txids, None64}

-- these are the transactions' hashes, in order
abbrev pub AreTxids : List Hash32 → List Tx → Type 0
AreTxids ids txs = bytes_of ids ≡ map txid_of txs

-- the bytes of a block's transactions
abbrev pub spelled_txs : Block → List (List ℕ)
spelled_txs b = map tx_spelling b.txs

-- the root is theirs, no other list of txids has it by a doubled one, and none can be read as a node of the tree
pub record IsCommitted (b : Block) : Type 0 where
  pub some : 0 < length b.txs
  pub root : b.header.root.0 ≡ merkle_root_of (txids (spelled_txs b))
  pub unmutated : is_mutated (txids (spelled_txs b)) ≡ false
  pub none64 : None64 (spelled_txs b)

-- these bytes are 64: a transaction of so many can be read as a node of the tree
abbrev pub has_64 : List ℕ → Bool
has_64 text = length text == 64

-- a block has a transaction, and its header's root is the Merkle root of its transactions' hashes
abbrev pub has_root : Block → Bool
has_root b = not (length b.txs == 0) && bytes_eq (merkle_root_of (txids (spelled_txs b))) b.header.root.0

-- the first of the three that is broken: whether the root is theirs, whether the list is doubled, and whether one has 64
-- bytes
abbrev pub first_fault : Bool → Bool → Bool → Option CommitFault
first_fault root doubled long =
    if not root then Some Root else if doubled then Some Mutated else if long then Some Tx64 else None

-- the first of the three that a block breaks
unfoldable pub commit_fault : Block → Option CommitFault
commit_fault b = first_fault (has_root b) (is_mutated (txids (spelled_txs b))) (list_any has_64 (spelled_txs b))

-- an answer tells this fault: it is Ok where there is none; want of memory may come in place of either
abbrev pub FindsFault : Option CommitFault → Result (Unit {0}) (Refused CommitFault) → Type 0
FindsFault fault (Ok x) = fault ≡ None
FindsFault fault (Err (No e)) = fault ≡ Some e
FindsFault fault (Err NoMemory) = Unit {0}

-- one input, which names the output 0xffffffff of the hash zero
abbrev pub makes_coins : List TxIn → Bool
makes_coins [] = false
makes_coins (i ∷ []) = i.prev.index == 0xffffffff && bytes_eq i.prev.txid.0 (replicate 32 0)
makes_coins (i ∷ j ∷ rest) = false

-- a coinbase: one input, which names output 0xffffffff of the hash zero (developer reference, "Coinbase Input")
abbrev pub is_coinbase_tx : Tx → Bool
is_coinbase_tx t = makes_coins t.inputs
