-- statement: records of a file of blocks, as nodes keep them (Bitcoin developer reference, "Serialized Blocks"): the network's
-- magic, the block's length, and the block, in which transactions may stand with witnesses (BIP 144, "Serialization").
use Rattle.std.specs.Prelude.{◌≡◌, ℕ, ◌≤◌, List, [], ◌∷◌, ◌++◌, length, nat_lt, if◌then◌else◌, Result, Ok, Err, bytes_eq}
use Rattle.std.specs.Int.{w32, to_le_bytes}
use Rattle.std.specs.List.{flat_map}
use Rattle.cf_bytes.specs.Cut.{Read, bytes_at, number_at, ◌>>=◌}
use Rattle.cf_bytes.specs.declared.cut.CutFault.{CutFault}
use Rattle.cf_bytes.specs.Magic.{magic}
use Rattle.cf_block.specs.declared.tx.Block.{Block}
use Rattle.cf_block.specs.Tx.{block_spelling}
use Rattle.cf_block.specs.Stored.{IsStored}
use Rattle.cf_walk.specs.declared.cause.RecordCause.{RecordCause}
use Rattle.cf_walk.specs.declared.cause.RecordCause.TheVariants.{Cut, Magic, TooLong}

-- a record with these bytes for its block
abbrev pub record_with : List ℕ → List ℕ
record_with text = magic ++ (to_le_bytes w32 (length text) ++ text)

-- the most bytes of a block in a record, with its witnesses
abbrev pub max_record : ℕ
max_record = 4000000

-- the record of a block without witnesses: the magic, the length and the block
unfoldable pub record_spelling : Block → List ℕ
record_spelling b = record_with (block_spelling b)

-- a record of a block: at most 4,000,000 bytes that store it, with witnesses or without
pub record IsRecordOf (bytes : List ℕ) (b : Block) : Type 0 where
  pub text : List ℕ
  pub stored : IsStored text b
  pub short : length text ≤ max_record
  pub spelled : bytes ≡ record_with text

-- a record of each of these blocks, in order
abbrev pub AreRecords : List (List ℕ) → List Block → Type 0
AreRecords [] [] = Unit {0}
AreRecords [] (b ∷ bs) = ⊥
AreRecords (r ∷ rs) [] = ⊥
AreRecords (r ∷ rs) (b ∷ bs) = IsRecordOf r b × AreRecords rs bs

-- records one after another
abbrev pub records_text : List (List ℕ) → List ℕ
records_text records = flat_map (λ bytes. bytes) records

-- the bytes are a record of each of these blocks, in order, and then the rest
pub record HasRecords (bytes : List ℕ) (blocks : List Block) (rest : List ℕ) : Type 0 where
  pub records : List (List ℕ)
  pub each : AreRecords records blocks
  pub spelled : bytes ≡ records_text records ++ rest

-- ---- what reading a record gives: a value and the bytes after it, or why it is none

-- a value and the bytes after it, or why it is none
abbrev pub Taken : Type 0 → Type 0
Taken X = Result (X × List ℕ) RecordCause

-- a field that is cut off
abbrev pub cut_off : {X : Type 0} → Read X CutFault → Taken X
cut_off (Ok x) = Ok x
cut_off (Err e) = Err Cut

-- four bytes, where they are regtest's magic
abbrev pub is_magic : List ℕ × List ℕ → Taken (List ℕ)
is_magic x = if bytes_eq x.0 magic then Ok x else Err Magic

-- a length, where it isn't above 4,000,000
abbrev pub is_short : ℕ × List ℕ → Taken ℕ
is_short x = if nat_lt max_record x.0 then Err TooLong else Ok x

-- regtest's magic at the front
unfoldable pub magic_at : List ℕ → Taken (List ℕ)
magic_at bytes = cut_off (bytes_at 4 bytes) >>= is_magic

-- the length of a record's block, at most 4,000,000
unfoldable pub length_at : List ℕ → Taken ℕ
length_at bytes = cut_off (number_at w32 bytes) >>= is_short

-- the length of the block of the record that stands here
unfoldable pub head_at : List ℕ → Taken ℕ
head_at bytes = if nat_lt (length bytes) 8 then Err Cut else magic_at bytes >>= λ m. length_at m.1

-- so many bytes, which are to be a block's
abbrev pub text_at : ℕ → List ℕ → Taken (List ℕ)
text_at size bytes = cut_off (bytes_at size bytes)

-- the bytes of its block
unfoldable pub record_at : List ℕ → Taken (List ℕ)
record_at bytes = head_at bytes >>= λ n. text_at n.0 n.1

-- what a call on a reader answered, seen by view, and where the reader stands then
abbrev pub Takes : {X Y : Type 0} → (X → Y) → Taken Y → Result X RecordCause → List ℕ → Type 0
Takes view read (Ok x) new = read ≡ Ok (view x, new)
Takes view read (Err e) new = read ≡ Err e
