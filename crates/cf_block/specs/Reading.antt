-- statement: what reading transactions and blocks gives: a value and the bytes after it, or the first fault and the bytes from the refused field on.
use Rattle.std.specs.Prelude.{◌≡◌, ℕ, ◌-◌, ◌^◌, min, ◌==◌, nat_lt, if◌then◌else◌, List, [], ◌∷◌, length, Result, Ok, Err}
use Rattle.std.specs.Int.{w32, w64}
use Rattle.cf_bytes.specs.Cut.{Read, number_at, int_at, ◌>>=◌}
use Rattle.cf_bytes.specs.Compact.{compact_at}
use Rattle.cf_bytes.specs.Lists.{list_at, counted_bytes_at}
use Rattle.cf_bytes.specs.declared.cut.CutFault.{CutFault}
use Rattle.cf_bytes.specs.declared.cut.CutFault.TheVariants.{Short as CutShort, NotShortest as CutNotShortest, TooLarge as CutTooLarge}
use Rattle.cf_bytes.specs.declared.memory.Refused.{Refused}
use Rattle.cf_bytes.specs.declared.memory.Refused.TheVariants.{No, NoMemory}
use Rattle.cf_block.specs.declared.fault.BlockFault.{BlockFault}
use Rattle.cf_block.specs.declared.fault.BlockFaultKind.{BlockFaultKind}
use Rattle.cf_block.specs.declared.fault.BlockFaultKind.TheVariants.{Short, NotShortest, TooLarge, NoInput, NoOutput, Value, TooLong, Rest, Witness, NoTx}
use Rattle.cf_block.specs.declared.tx.OutPoint.{OutPoint}
use Rattle.cf_block.specs.declared.tx.TxIn.{TxIn}
use Rattle.cf_block.specs.declared.tx.Tx.{Tx}
use Rattle.cf_block.specs.declared.tx.Block.{Block}
use Rattle.cf_block.specs.Output.{Output, max_value}
use Rattle.cf_block.specs.Header.{header_at, hash_at}
use Rattle.cf_block.specs.Tx.{max_block}

-- the fault of a field, as a block tells it
abbrev pub kind_of : CutFault → BlockFaultKind
kind_of CutShort = Short
kind_of CutNotShortest = NotShortest
kind_of CutTooLarge = TooLarge

-- a field of the reader, with its fault's name here
abbrev pub of_cut : {X : Type 0} → Read X CutFault → Read X BlockFaultKind
of_cut (Ok x) = Ok x
of_cut (Err e) = Err (kind_of e.0, e.1)

-- a number of four bytes, the low byte first
abbrev pub u32_at : List ℕ → Read ℕ BlockFaultKind
u32_at bytes = of_cut (number_at w32 bytes)

-- a script, the count of its bytes before it
abbrev pub script_at : List ℕ → Read (List ℕ) BlockFaultKind
script_at bytes = of_cut (counted_bytes_at bytes)

-- an outpoint: a transaction's hash and the index of one of its outputs
unfoldable pub outpoint_at : List ℕ → Read OutPoint BlockFaultKind
outpoint_at bytes = do
  txid ← of_cut (hash_at bytes)
  index ← u32_at txid.1
  Ok (record { txid = txid.0; index = index.0 }, index.1)

-- an input: the output that it names, its script and its sequence number
unfoldable pub input_at : List ℕ → Read TxIn BlockFaultKind
input_at bytes = do
  prev ← outpoint_at bytes
  script ← script_at prev.1
  sequence ← u32_at script.1
  Ok (record { prev = prev.0; script = script.0; sequence = sequence.0 }, sequence.1)

-- a value above the greatest is refused where it begins; as a signed number those from 2 ^ 63 on are negative
abbrev pub in_range : List ℕ → ℕ × List ℕ → Read ℕ BlockFaultKind
in_range bytes x = if nat_lt max_value x.0 then Err (Value, bytes) else Ok x

-- an output's value: eight bytes, the low byte first, and no more than 21 million coins
unfoldable pub value_at : List ℕ → Read ℕ BlockFaultKind
value_at bytes = of_cut (number_at w64 bytes) >>= in_range bytes

-- an output: its value and its script
unfoldable pub output_at : List ℕ → Read Output BlockFaultKind
output_at bytes = do
  value ← value_at bytes
  script ← script_at value.1
  Ok (record { value = value.0; script = script.0 }, script.1)

-- no input, followed by 01, marks the form with witnesses (BIP 144)
abbrev pub no_input : List ℕ → BlockFaultKind
no_input [] = NoInput
no_input (b ∷ rest) = if b == 1 then Witness else NoInput

-- a count of none is refused where it begins
abbrev pub some_of : BlockFaultKind → List ℕ → ℕ × List ℕ → Read ℕ BlockFaultKind
some_of none bytes x = if x.0 == 0 then Err (none, bytes) else Ok x

-- a count of inputs that isn't 0; of a count of 0 the byte after it tells which fault that is
abbrev pub some_inputs : List ℕ → ℕ × List ℕ → Read ℕ BlockFaultKind
some_inputs bytes x = some_of (no_input x.1) bytes x

-- how many inputs a transaction has: at least one
unfoldable pub input_count_at : List ℕ → Read ℕ BlockFaultKind
input_count_at bytes = of_cut (compact_at bytes) >>= some_inputs bytes

-- a count of at least one, refused with this fault where it is 0
unfoldable pub count_at : BlockFaultKind → List ℕ → Read ℕ BlockFaultKind
count_at none bytes = of_cut (compact_at bytes) >>= some_of none bytes

-- a transaction without witnesses, field by field (developer reference, "Raw Transaction Format")
unfoldable pub tx_fields_at : List ℕ → Read Tx BlockFaultKind
tx_fields_at bytes = do
  version ← of_cut (int_at w32 bytes)
  in_count ← input_count_at version.1
  inputs ← list_at input_at in_count.0 in_count.1
  out_count ← count_at NoOutput inputs.1
  outputs ← list_at output_at out_count.0 out_count.1
  lock_time ← u32_at outputs.1
  Ok (record { version = version.0; inputs = inputs.0; outputs = outputs.0; lock_time = lock_time.0 }, lock_time.1)

-- a header that is cut off is refused where it begins
abbrev pub of_header : {X : Type 0} → Read X BlockFault → Read X BlockFaultKind
of_header (Ok x) = Ok x
of_header (Err e) = Err (e.0.kind, e.1)

-- no byte is left
abbrev pub to_end : {X : Type 0} → X × List ℕ → Read X BlockFaultKind
to_end (x, []) = Ok (x, [])
to_end (x, b ∷ rest) = Err (Rest, b ∷ rest)

-- a block: header, transactions, at least one, and no byte more (developer reference, "Serialized Blocks")
unfoldable pub block_fields_at : List ℕ → Read Block BlockFaultKind
block_fields_at bytes = do
  header ← of_header (header_at bytes)
  count ← count_at NoTx header.1
  txs ← list_at tx_fields_at count.0 count.1
  to_end (record { header = header.0; txs = txs.0 }, txs.1)

-- a block, refused as a whole where there are more than 1,000,000 bytes
unfoldable pub short_block_at : List ℕ → Read Block BlockFaultKind
short_block_at bytes = if nat_lt max_block (length bytes) then Err (TooLong, bytes) else block_fields_at bytes

-- the place of a fault: how many bytes stand before what is refused, and at most the greatest number of 32 bits
abbrev pub place_of : List ℕ → List ℕ → ℕ
place_of bytes rest = min (length bytes - length rest) (2 ^ 32 - 1)

-- a fault together with its place in these bytes
abbrev pub fault_at : List ℕ → BlockFaultKind × List ℕ → BlockFault
fault_at bytes e = record { kind = e.0; place = place_of bytes e.1 }

-- refused as a whole, at its start, with the place
abbrev pub placed : {X : Type 0} → List ℕ → Read X BlockFaultKind → Read X BlockFault
placed bytes (Ok x) = Ok x
placed bytes (Err e) = Err (fault_at bytes e, bytes)

-- what reading a transaction gives, and what reading a block gives
unfoldable pub tx_at : List ℕ → Read Tx BlockFault
tx_at bytes = placed bytes (tx_fields_at bytes)

-- reading a block: the block and the bytes after it, or the first fault and the bytes from the refused field on
unfoldable pub block_at : List ℕ → Read Block BlockFault
block_at bytes = placed bytes (short_block_at bytes)

-- What a call answered that reads all the bytes and takes memory.
abbrev pub GivesAll : {X Y : Type 0} → (X → Y) → List ℕ → Read Y BlockFault → Result X (Refused BlockFault) → Type 0
GivesAll view bytes read (Ok x) = read ≡ Ok (view x, [])
GivesAll view bytes read (Err (No e)) = read ≡ Err (e, bytes)
GivesAll view bytes read (Err NoMemory) = Unit {0}
