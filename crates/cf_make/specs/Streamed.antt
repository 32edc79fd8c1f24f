-- machine: chains made a block at a time, of which only the records are kept.
use Rattle.std.specs.Prelude.{◌≡◌, ℕ, Bool, List, []}
use Rattle.cf_bytes.specs.declared.memory.Refused.{Refused}
use Rattle.cf_bytes.specs.declared.memory.Refused.TheVariants.{No, NoMemory}
use Rattle.cf_block.specs.declared.tx.Block.{Block}
use Rattle.cf_make.specs.Made.{IsExtension, StopsAt, tip_after, genesis_tip}
use Rattle.cf_make.specs.Records.{made_records_of}
use Rattle.cf_make.specs.declared.tipped.AtHeight.{AtHeight}
use Rattle.cf_make.specs.declared.tipped.Tip.{Tip}

-- the records of the chain of so many blocks that a seed tells, with the witnesses of their coinbases or without
pub record AreRecordsOf (witness : Bool) (seed n : ℕ) (bytes : List ℕ) : Type 0 where
  pub whole : List Block
  pub made : IsExtension [] seed n whole
  pub spelled : bytes ≡ made_records_of witness whole

-- why there are none: the lowest height at which none of the nonces serves
abbrev pub StopsFor : ℕ → ℕ → Refused AtHeight → Type 0
StopsFor seed n (No e) = StopsAt [] seed n e.height
StopsFor seed n NoMemory = Unit {0}

-- ---- on the way

-- the records so far, and what the next block needs of the last one
pub record AreRecordsTo (witness : Bool) (seed n : ℕ) (tip : Tip) (bytes : List ℕ) : Type 0 where
  pub whole : List Block
  pub made : IsExtension [] seed n whole
  pub spelled : bytes ≡ made_records_of witness whole
  pub top : tip ≡ tip_after genesis_tip whole
