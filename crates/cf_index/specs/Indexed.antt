-- machine: what an index keeps of a chain.
use Rattle.std.specs.Prelude.{◌≡◌, List, map}
use Rattle.cf_block.specs.declared.tx.Block.{Block}
use Rattle.cf_block.specs.Genesis.{first_block}
use Rattle.cf_chain.specs.Filters.{filters_of}
use Rattle.cf_chain.specs.Good.{IsGoodChain}
use Rattle.cf_index.specs.declared.block_filter.BlockFilter.{BlockFilter}
use Rattle.cf_index.specs.Filtering.{shown}
use Rattle.cf_index.specs.HeightMap.{HeightMap, AreHeightsOf}

-- these are genesis, a good chain's blocks above it, the filters of all of them from genesis on, and their heights
pub record IsIndexed (genesis : Block) (blocks : List Block) (filters : List BlockFilter) (heights : HeightMap) : Type 0 where
  pub first : genesis ≡ first_block
  pub good : IsGoodChain blocks
  pub told : map shown filters ≡ filters_of blocks
  pub placed : AreHeightsOf heights blocks
