-- statement: records of a block file: regtest's magic, the length of the block's bytes as a little-endian u32, and those bytes, in
-- which the coinbase stands without a witness or with one (BIP 144, "Serialization").
use Rattle.std.specs.Prelude.{ℕ, Bool, if◌then◌else◌, List, [], ◌∷◌, ◌++◌, length, replicate}
use Rattle.std.specs.Int.{w32, to_le_bytes}
use Rattle.std.specs.List.{flat_map}
use Rattle.cf_bytes.specs.Compact.{compact}
use Rattle.cf_bytes.specs.Magic.{magic}
use Rattle.cf_block.specs.declared.tx.Tx.{Tx}
use Rattle.cf_block.specs.declared.tx.Block.{Block}
use Rattle.cf_block.specs.Header.{header_spelling}
use Rattle.cf_block.specs.Tx.{tx_spelling, block_spelling}
use Rattle.cf_block.specs.Stored.{Stack, extended_spelling}

-- a block's record, its coinbase without a witness
unfoldable pub record_of : Block → List ℕ
record_of b = magic ++ (to_le_bytes w32 (length (block_spelling b)) ++ block_spelling b)

-- the records of blocks, one after another
abbrev pub records_of : List Block → List ℕ
records_of blocks = flat_map record_of blocks

-- the witness of a made coinbase, as those of nodes have it: 32 zero bytes (BIP 141, "Commitment structure")
abbrev pub reserved : Stack
reserved = replicate 32 0 ∷ []

-- a block's transactions, the first with that witness and the others without any
abbrev pub with_witness : List Tx → List ℕ
with_witness [] = []
with_witness (t ∷ ts) = extended_spelling t (reserved ∷ []) ++ flat_map tx_spelling ts

-- a block's bytes, its coinbase with that witness
unfoldable pub witness_spelling : Block → List ℕ
witness_spelling b = header_spelling b.header ++ (compact (length b.txs) ++ with_witness b.txs)

-- a block's bytes, with its coinbase's witness or without
abbrev pub text_of : Bool → Block → List ℕ
text_of witness b = if witness then witness_spelling b else block_spelling b

-- a block's record, with its coinbase's witness or without
unfoldable pub made_record : Bool → Block → List ℕ
made_record witness b = magic ++ (to_le_bytes w32 (length (text_of witness b)) ++ text_of witness b)

-- the records of blocks, one after another, with the witnesses of their coinbases or without
abbrev pub made_records_of : Bool → List Block → List ℕ
made_records_of witness blocks = flat_map (made_record witness) blocks
