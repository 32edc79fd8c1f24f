-- statement: what was told stands on a chain.
use Rattle.std.specs.Prelude.{◌≡◌, ℕ, ℤ, List, length, slice_get, Option, Some, option_map}
use Rattle.cf_bytes.specs.declared.hash.Hash32.{Hash32}
use Rattle.cf_block.specs.declared.tx.Block.{Block}
use Rattle.cf_block.specs.Header.{block_hash_of}
use Rattle.cf_chain.specs.Heights.{all_blocks}
use Rattle.cf_chain.specs.Grow.{TipMark, NotMet, TipTold, top_hash}
use Rattle.cf_grow.specs.declared.mark.Tip.{Tip}

-- the hash at a height
abbrev pub hash_in : List Block → ℕ → Option Hash32
hash_in blocks height = option_map (λ b. record { 0 = block_hash_of b.header }) (slice_get (all_blocks blocks) height)

-- the same of what was told
abbrev pub StandsOn : List Block → TipMark → Type 0
StandsOn blocks NotMet = Unit {0}
StandsOn blocks (TipTold height hash) = hash_in blocks height ≡ Some (record { 0 = hash })

-- the height and the hash of a chain's highest block
abbrev pub tip_of : List Block → Tip
tip_of blocks = record { height = length blocks; hash = record { 0 = top_hash blocks } }

-- a chain has this hash at this height
abbrev pub Keeps : List Block → Tip → Type 0
Keeps blocks tip = hash_in blocks tip.height ≡ Some tip.hash

-- what a server that grows began with: the time of its `version`, and the tip of its chain
pub record Start : Type 0 where
  pub time : ℤ
  pub tip : Tip
