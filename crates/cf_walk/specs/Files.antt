-- statement: files of blocks: which are good, and the first bad record of the others.
use Rattle.std.specs.Prelude.{◌≡◌, ◌⊎◌, ℕ, zero, suc, ◌+◌, ◌-◌, ◌==◌, Bool, false, nat_le, bytes_eq, if◌then◌else◌, List, [], ◌∷◌, ◌++◌, length, replicate, Option, Some, None, Result, Ok, Err}
use Rattle.std.specs.List.{list_all}
use Rattle.std.specs.FinMap.{empty}
use Rattle.cf_bytes.specs.Cut.{Read, ◌>>=◌}
use Rattle.cf_bytes.specs.declared.memory.Refused.{Refused}
use Rattle.cf_bytes.specs.declared.memory.Refused.TheVariants.{No, NoMemory}
use Rattle.cf_block.specs.declared.fault.BlockFault.{BlockFault}
use Rattle.cf_block.specs.declared.commitment.CommitFault.{CommitFault}
use Rattle.cf_block.specs.declared.tx.Block.{Block}
use Rattle.cf_block.specs.Genesis.{first_block}
use Rattle.cf_block.specs.Stored.{stored_block_at}
use Rattle.cf_block.specs.Tx.{block_spelling}
use Rattle.cf_block.specs.Commitment.{commit_fault}
use Rattle.cf_headers.specs.declared.rules.HeaderFault.{HeaderFault}
use Rattle.cf_headers.specs.Rules.{fault_after}
use Rattle.cf_headers.specs.Chain.{tip_hash, past_of, height_limit}
use Rattle.cf_chain.specs.Coins.{CoinMap, coins_after}
use Rattle.cf_chain.specs.Good.{IsGoodChain, headers_of}
use Rattle.cf_coins.specs.declared.fault.CoinFault.{CoinFault}
use Rattle.cf_walk.specs.declared.cause.RecordCause.{RecordCause}
use Rattle.cf_walk.specs.declared.cause.RecordCause.TheVariants.{Block as InBlock, Header as InHeader, TooHigh, Commit, Coins as InCoins}
use Rattle.cf_walk.specs.declared.cause.BadBlock.{BadBlock}
use Rattle.cf_walk.specs.Records.{Taken, IsRecordOf, HasRecords, record_at}
use Rattle.cf_coins.specs.Spending.{spend_txs}

-- the most bytes that a file of blocks may have
abbrev pub most_blocks : ℕ
most_blocks = 1073741824

-- ---- good files

-- the bytes are a record of the genesis block, with witnesses or without, and then the rest
pub record HasFirst (bytes rest : List ℕ) : Type 0 where
  pub front : List ℕ
  pub is : IsRecordOf front first_block
  pub spelled : bytes ≡ front ++ rest

-- the bytes are a record of the genesis block, and then records of these blocks and the rest
pub record HasGenesis (bytes : List ℕ) (blocks : List Block) (rest : List ℕ) : Type 0 where
  pub more : List ℕ
  pub first : HasFirst bytes more
  pub others : HasRecords more blocks rest

-- Records of blocks above genesis, the lowest first, each with witnesses or without; before them genesis's may stand, and
-- after them zeros alone, any number of them.
pub record IsFileOf (bytes : List ℕ) (blocks : List Block) : Type 0 where
  pub zeros : ℕ
  pub spelled : HasRecords bytes blocks (replicate zeros 0) ⊎ HasGenesis bytes blocks (replicate zeros 0)

-- the bytes are records of a good chain's blocks; genesis's may stand before them, and zeros alone after them
pub record IsGoodFile (bytes : List ℕ) (blocks : List Block) : Type 0 where
  pub file : IsFileOf bytes blocks
  pub chain : IsGoodChain blocks

-- ---- the first bad record

-- all bytes are zeros
abbrev pub all_zeros : List ℕ → Bool
all_zeros bytes = list_all (λ b. b == 0) bytes

-- a block, its fault as its record's
abbrev pub in_block : Read Block BlockFault → Result Block RecordCause
in_block (Ok x) = Ok x.0
in_block (Err e) = Err (InBlock e.0.kind)

-- a header's fault, as its record's
abbrev pub in_header : Option HeaderFault → Option RecordCause
in_header None = None
in_header (Some fault) = Some (InHeader fault)

-- the fault of a block that stands above as many as a chain may have
abbrev pub in_height : ℕ → Option RecordCause
in_height height = if nat_le height_limit height then Some TooHigh else None

-- the fault of a block whose header doesn't stand for its transactions, as its record's
abbrev pub in_commitment : Option CommitFault → Option RecordCause
in_commitment None = None
in_commitment (Some fault) = Some (Commit fault)

-- the fault of what a block spends and makes, as its record's
abbrev pub in_coins : Result CoinMap CoinFault → Option RecordCause
in_coins (Ok coins) = None
in_coins (Err fault) = Some (InCoins fault)

-- the first cause where there is one, and else the later
abbrev pub or_else : Option RecordCause → Option RecordCause → Option RecordCause
or_else (Some cause) later = Some cause
or_else None later = later

-- why a block may not stand on these blocks
unfoldable pub cause_on : List Block → Block → Option RecordCause
cause_on blocks b =
    or_else (in_header (fault_after (tip_hash (headers_of blocks)) (past_of (headers_of blocks)) b.header))
    (or_else (in_height (length blocks))
    (or_else (in_commitment (commit_fault b))
    (in_coins (spend_txs (coins_after empty blocks) b.txs))))

-- why a block may not stand above so many blocks, on a header with this hash and after these times, whatever it spends
abbrev pub cause_before_coins : List ℕ → List ℕ → ℕ → Block → Option RecordCause
cause_before_coins tip past height b = or_else (in_header (fault_after tip past b.header)) (or_else (in_height height) (in_commitment (commit_fault b)))

-- these blocks and one more
abbrev pub put_on : Option RecordCause → List Block → Block → Result (List Block) RecordCause
put_on None blocks b = Ok (blocks ++ b ∷ [])
put_on (Some cause) blocks b = Err cause

-- the blocks with that of the record that stands here, and the bytes after it
unfoldable pub next_at : List Block → List ℕ → Taken (List Block)
next_at blocks bytes = do
  text ← record_at bytes
  b ← in_block (stored_block_at text.0)
  more ← put_on (cause_on blocks b) blocks b
  Ok (more, text.1)

-- what a record gives, its fault with the record's number
abbrev pub numbered : {X : Type 0} → ℕ → Taken X → Result (X × List ℕ) BadBlock
numbered number (Ok x) = Ok x
numbered number (Err cause) = Err (record { number = number; cause = cause })

-- The blocks of the file, or its first bad record, where these blocks were read and so many records stand before their own. The first
-- bytes, so many of them, belong to a record that was read.
unfoldable pub blocks_from : ℕ → ℕ → List Block → List ℕ → Result (List Block) BadBlock
blocks_from before read blocks [] = Ok blocks
blocks_from before (suc read) blocks (b ∷ bytes) = blocks_from before read blocks bytes
blocks_from before zero blocks (b ∷ bytes) =
    if all_zeros (b ∷ bytes) then Ok blocks
    else numbered (suc (before + length blocks)) (next_at blocks (b ∷ bytes)) >>= λ x. blocks_from before (length bytes - length x.1) x.0 bytes

-- the block of the record that stands here, and the bytes after it
unfoldable pub block_here : List ℕ → Taken Block
block_here bytes = do
  text ← record_at bytes
  b ← in_block (stored_block_at text.0)
  Ok (b, text.1)

-- a block is the genesis block
abbrev pub is_first : Block → Bool
is_first b = bytes_eq (block_spelling b) (block_spelling first_block)

-- the bytes after a record of the genesis block, where it is one
abbrev pub behind_first : Taken Block → Option (List ℕ)
behind_first (Ok x) = if is_first x.0 then Some x.1 else None
behind_first (Err cause) = None

-- the bytes after the first record, where that is one of the genesis block
unfoldable pub after_genesis : List ℕ → Option (List ℕ)
after_genesis bytes = behind_first (block_here bytes)

-- the blocks of all the bytes, or of those after a record of genesis
abbrev pub blocks_after : List ℕ → Option (List ℕ) → Result (List Block) BadBlock
blocks_after bytes None = blocks_from 0 0 [] bytes
blocks_after bytes (Some more) = blocks_from 1 0 [] more

-- the blocks of a file above genesis, or its first bad record, by its number, and the first rule that it breaks
unfoldable pub blocks_at : List ℕ → Result (List Block) BadBlock
blocks_at bytes = blocks_after bytes (after_genesis bytes)

-- ---- bad files

-- Records of a good chain's blocks, and then what is neither zeros alone nor the record of a block that may stand on them: its
-- number, where so many records stand before those of the blocks, and why.
pub record StopsAt (bytes : List ℕ) (before : ℕ) (bad : BadBlock) : Type 0 where
  pub blocks : List Block
  pub rest : List ℕ
  pub good : IsGoodChain blocks
  pub spelled : HasRecords bytes blocks rest
  pub some : all_zeros rest ≡ false
  pub number : bad.number ≡ suc (before + length blocks)
  pub cause : next_at blocks rest ≡ Err bad.cause

-- a first record of the genesis block, with witnesses or without, is passed over, and counted
abbrev pub IsBadFile : List ℕ → BadBlock → Type 0
IsBadFile bytes bad =
    ((after_genesis bytes ≡ None) × StopsAt bytes 0 bad)
    ⊎ ((more : List ℕ) × (after_genesis bytes ≡ Some more) × StopsAt more 1 bad)

-- what is said of a fault
abbrev pub IfBad : Result (List Block) (Refused BadBlock) → (BadBlock → Type 0) → Type 0
IfBad (Ok blocks) Says = Unit {0}
IfBad (Err (No bad)) Says = Says bad
IfBad (Err NoMemory) Says = Unit {0}

-- what reading a file answered
abbrev pub Answers : Result (List Block) BadBlock → Result (List Block) (Refused BadBlock) → Type 0
Answers read (Ok blocks) = read ≡ Ok blocks
Answers read (Err (No bad)) = read ≡ Err bad
Answers read (Err NoMemory) = Unit {0}
