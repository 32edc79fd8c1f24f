-- machine: heights by the hashes of blocks.
use Rattle.std.specs.Prelude.{◌≡◌, ℕ, List}
use Rattle.std.specs.Coded.{Coded, coded_ℕ}
use Rattle.std.specs.FinMap.{code, get}
use Rattle.cf_bytes.specs.declared.hash.Hash32.{Hash32}
use Rattle.cf_block.specs.declared.tx.Block.{Block}
use Rattle.cf_block.specs.Header.{block_hash_of, genesis_header}
use Rattle.cf_chain.specs.Heights.{block_height}
use Rattle.cf_index.specs.ByHash.{hash_code, ByHash}

-- a map from hashes to heights
abbrev pub HeightMap : Type 0
HeightMap = ByHash ℕ

abbrev pub heights_code : Coded HeightMap
heights_code = code hash_code coded_ℕ

-- each hash has the height of the lowest block that has it, and no other hash has one
abbrev pub AreHeightsOf : HeightMap → List Block → Type 0
AreHeightsOf heights blocks = (hash : Hash32) → get heights hash ≡ block_height hash blocks

-- the hash of the first block
abbrev pub first_hash : Hash32
first_hash = record { 0 = block_hash_of genesis_header }
