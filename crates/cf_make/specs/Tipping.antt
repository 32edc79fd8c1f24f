-- machine: one made block, and what the block above it needs.
use Rattle.std.specs.Prelude.{◌≡◌, ℕ, Result, Ok, Err}
use Rattle.cf_bytes.specs.declared.memory.Refused.{Refused}
use Rattle.cf_bytes.specs.declared.memory.Refused.TheVariants.{No, NoMemory}
use Rattle.cf_block.specs.declared.header.Header.{Header}
use Rattle.cf_block.specs.Header.{block_hash_of}
use Rattle.cf_make.specs.Made.{IsMadeBlock, max_tries, made_header, tip_of}
use Rattle.cf_make.specs.Mined.{IsMined, NoneMeets}
use Rattle.cf_make.specs.declared.tipped.AtHeight.{AtHeight}
use Rattle.cf_make.specs.declared.tipped.Tip.{Tip}
use Rattle.cf_make.specs.declared.mining.NoNonce.{NoNonce}
use Rattle.cf_make.specs.declared.tipped.Hashed.{Hashed}
use Rattle.cf_make.specs.declared.tipped.Tipped.{Tipped}

-- a mined header, with its hash
pub record IsMinedHashed (h : Header) (tries : ℕ) (done : Hashed) : Type 0 where
  pub mined : IsMined h tries done.header
  pub hash : done.hash.0 ≡ block_hash_of done.header

-- what a call answered that mines one
abbrev pub MinesHashed : Header → ℕ → Result Hashed NoNonce → Type 0
MinesHashed h tries (Ok mined) = IsMinedHashed h tries mined
MinesHashed h tries (Err e) = NoneMeets h tries

-- a made block, with what the next one needs of it
pub record IsTipped (seed height : ℕ) (tip : Tip) (made : Tipped) : Type 0 where
  pub block : IsMadeBlock seed height tip made.block
  pub next : made.tip ≡ tip_of made.block

-- what a call answered that makes one
abbrev pub MakesTipped : ℕ → ℕ → Tip → Result Tipped (Refused AtHeight) → Type 0
MakesTipped seed height tip (Ok made) = IsTipped seed height tip made
MakesTipped seed height tip (Err (No e)) = (e.height ≡ height) × NoneMeets (made_header seed height tip) max_tries
MakesTipped seed height tip (Err NoMemory) = Unit {0}
