-- statement: heights in a chain of blocks: genesis stands at height 0, and the blocks above it follow, the lowest first (Bitcoin
-- developer reference, "Block Height And Forking").
use Rattle.std.specs.Prelude.{ℕ, Bool, List, ◌∷◌, Option}
use Rattle.std.specs.List.{position}
use Rattle.cf_bytes.specs.declared.hash.Hash32.{Hash32}
use Rattle.cf_block.specs.declared.tx.Block.{Block}
use Rattle.cf_block.specs.Header.{block_hash_of}
use Rattle.cf_block.specs.Genesis.{first_block}
use Rattle.cf_headers.specs.Rules.{same}

-- the blocks from genesis on, each at the place of its height
abbrev pub all_blocks : List Block → List Block
all_blocks blocks = first_block ∷ blocks

-- a block has this hash
abbrev pub has_hash : Hash32 → Block → Bool
has_hash hash b = same (block_hash_of b.header) hash.0

-- the height at which a hash stands, the lowest of several
abbrev pub block_height : Hash32 → List Block → Option ℕ
block_height hash blocks = position (has_hash hash) (all_blocks blocks)
