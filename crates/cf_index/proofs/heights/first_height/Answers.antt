use Rattle.std.proofs.Common.{◌∙◌, ap}
use Rattle.cf_block.specs.Header.{block_hash_of}
use Rattle.cf_index.specs.HeightMap.{first_hash}
use Rattle.cf_index.proofs.Lowest.{height_first}
use Rattle.cf_index.proofs.heights.first_height.Goals as goal

pub returns : goal.returns
returns c = λ q. height_first _ _ c.block_hash.result first_hash q c.new-heights.ensures c.in_ok-add.ensures.ok (c.block_hash.ensures ∙ ap block_hash_of c.genesis_header.ensures)
