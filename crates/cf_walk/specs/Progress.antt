-- machine: what the code's steps answer while it reads a file.
use Rattle.std.specs.Prelude.{◌≡◌, ℕ, List, [], ◌∷◌, ◌++◌, Option, Some, None, Result, Ok, Err, true}
use Rattle.cf_bytes.specs.declared.memory.Refused.{Refused}
use Rattle.cf_bytes.specs.declared.memory.Refused.TheVariants.{No, NoMemory}
use Rattle.cf_block.specs.declared.tx.Block.{Block}
use Rattle.cf_walk.specs.declared.cause.RecordCause.{RecordCause}
use Rattle.cf_walk.specs.Records.{IsRecordOf, HasRecords}
use Rattle.cf_walk.specs.Files.{all_zeros}

-- a cause that is found, or want of memory
abbrev pub RefusesFor : Option RecordCause → Refused RecordCause → Type 0
RefusesFor cause (No e) = cause ≡ Some e
RefusesFor cause NoMemory = Unit {0}

abbrev pub FindsCause : {X : Type 0} → Option RecordCause → Result X (Refused RecordCause) → Type 0
FindsCause cause (Ok x) = cause ≡ None
FindsCause cause (Err e) = RefusesFor cause e

-- what reading a block answered
abbrev pub GivesBlock : Result Block RecordCause → Result Block (Refused RecordCause) → Type 0
GivesBlock read (Ok b) = read ≡ Ok b
GivesBlock read (Err (No e)) = read ≡ Err e
GivesBlock read (Err NoMemory) = Unit {0}

-- the bytes begin with a record of one more block
pub record HasRecord (blocks more : List Block) (bytes rest : List ℕ) : Type 0 where
  pub block : Block
  pub added : more ≡ blocks ++ block ∷ []
  pub front : List ℕ
  pub is : IsRecordOf front block
  pub spelled : bytes ≡ front ++ rest

-- the bytes are records of these blocks, and then zeros alone
pub record IsRecordsOf (bytes : List ℕ) (blocks : List Block) : Type 0 where
  pub rest : List ℕ
  pub spelled : HasRecords bytes blocks rest
  pub zeros : all_zeros rest ≡ true
