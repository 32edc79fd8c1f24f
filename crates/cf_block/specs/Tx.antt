-- statement: transactions and blocks (Bitcoin developer reference, "Raw Transaction Format" and "Serialized Blocks"), without witnesses.
use Rattle.std.specs.Prelude.{ℕ, ◌^◌, ◌<◌, ◌≤◌, List, ◌++◌, length, FitsSigned}
use Rattle.std.specs.Int.{w32, w64, to_le_bytes, cast_unsigned}
use Rattle.std.specs.List.{flat_map, AllByRecursion}
use Rattle.cf_bytes.specs.Hash.{hash_of}
use Rattle.cf_bytes.specs.Compact.{compact}
use Rattle.cf_bytes.specs.Lists.{counted_bytes}
use Rattle.cf_block.specs.declared.tx.TxIn.{TxIn}
use Rattle.cf_block.specs.declared.tx.Tx.{Tx}
use Rattle.cf_block.specs.declared.tx.Block.{Block}
use Rattle.cf_block.specs.Output.{Output, max_value}
use Rattle.cf_block.specs.Header.{IsHash, IsHeader, header_spelling}

-- the most items that a list may have, and bytes that a script may have
abbrev pub max_count : ℕ
max_count = 33554432

-- the bytes of an input: the output that it names, its script and its sequence number
unfoldable pub input_spelling : TxIn → List ℕ
input_spelling i = i.prev.txid.0 ++ (to_le_bytes w32 i.prev.index ++ (counted_bytes i.script ++ to_le_bytes w32 i.sequence))

-- the bytes of an output: its value and its script
unfoldable pub output_spelling : Output → List ℕ
output_spelling o = to_le_bytes w64 o.value ++ counted_bytes o.script

-- the bytes of a transaction, without witnesses
unfoldable pub tx_spelling : Tx → List ℕ
tx_spelling t =
    to_le_bytes w32 (cast_unsigned w32 t.version) ++ (compact (length t.inputs) ++ (flat_map input_spelling t.inputs
    ++ (compact (length t.outputs) ++ (flat_map output_spelling t.outputs ++ to_le_bytes w32 t.lock_time))))

-- the bytes of a block: its header, how many transactions there are, and each of them
unfoldable pub block_spelling : Block → List ℕ
block_spelling b = header_spelling b.header ++ (compact (length b.txs) ++ flat_map tx_spelling b.txs)

-- a transaction's hash: SHA-256 of SHA-256 of its bytes
unfoldable pub txid_of : Tx → List ℕ
txid_of t = hash_of (tx_spelling t)

-- what has a spelling

-- an input that has a spelling: its numbers are in range, and its script isn't too long
pub record IsInput (i : TxIn) : Type 0 where
  pub txid : IsHash i.prev.txid
  pub index : i.prev.index < 2 ^ 32
  pub script : length i.script ≤ max_count
  pub sequence : i.sequence < 2 ^ 32

-- an output that has a spelling: its value is at most 21 million coins, and its script isn't too long
pub record IsOutput (o : Output) : Type 0 where
  pub value : o.value ≤ max_value
  pub script : length o.script ≤ max_count

-- a transaction that has a spelling: it has an input and an output, counts and numbers are in range, no value is above 21 million coins
pub record IsTx (t : Tx) : Type 0 where
  pub version : FitsSigned w32 t.version
  pub some_inputs : 1 ≤ length t.inputs
  pub few_inputs : length t.inputs ≤ max_count
  pub inputs : AllByRecursion IsInput t.inputs
  pub some_outputs : 1 ≤ length t.outputs
  pub few_outputs : length t.outputs ≤ max_count
  pub outputs : AllByRecursion IsOutput t.outputs
  pub lock_time : t.lock_time < 2 ^ 32

-- the most bytes of a block
abbrev pub max_block : ℕ
max_block = 1000000

-- a block that has a spelling: it has a transaction, counts and numbers are in range, and it has at most 1,000,000 bytes
pub record IsBlock (b : Block) : Type 0 where
  pub header : IsHeader b.header
  pub some_txs : 1 ≤ length b.txs
  pub few_txs : length b.txs ≤ max_count
  pub txs : AllByRecursion IsTx b.txs
  pub short : length (block_spelling b) ≤ max_block
