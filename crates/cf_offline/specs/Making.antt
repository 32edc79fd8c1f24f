-- statement: what is promised of `make`.
use Rattle.std.specs.Prelude.{◌≡◌, ℕ, Bool, List, [], Option}
use Rattle.cf_bytes.specs.Files.{Named, with_file}
use Rattle.cf_block.specs.declared.tx.Block.{Block}
use Rattle.cf_make.specs.Made.{IsExtension, StopsAt}
use Rattle.cf_make.specs.Records.{made_records_of}
use Rattle.cf_answers.specs.declared.status.Status.{Status}
use Rattle.cf_answers.specs.declared.status.Status.TheVariants.{Done, NoMemory, FileFault, NoNonce}

-- the records of the chain of so many blocks that the seed tells, their coinbases with a witness or without, stand under this
-- name, and nothing else has changed
pub record IsMade (witness : Bool) (seed blocks : ℕ) (file : List ℕ) (before after : Option Named) : Type 0 where
  pub chain : List Block
  pub made : IsExtension [] seed blocks chain
  pub stands : after ≡ with_file file (made_records_of witness chain) before

-- the files after `make`, by its answer; NoNonce tells the lowest height at which no nonce serves
abbrev pub IsMaking : Status → Bool → ℕ → ℕ → List ℕ → Option Named → Option Named → Type 0
IsMaking Done witness seed blocks file before after = IsMade witness seed blocks file before after
IsMaking (NoNonce height) witness seed blocks file before after = StopsAt [] seed blocks height × (after ≡ before)
IsMaking FileFault witness seed blocks file before after = after ≡ before
IsMaking NoMemory witness seed blocks file before after = after ≡ before
IsMaking status witness seed blocks file before after = ⊥
