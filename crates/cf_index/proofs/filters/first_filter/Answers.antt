use Rattle.std.proofs.Common.{length, flat_map, ap, arith}
use Rattle.cf_block.specs.declared.tx.Block.{Block}
use Rattle.cf_filter.specs.Items.{paid_scripts}
use Rattle.cf_chain.proofs.Bounds.{genesis_few}
use Rattle.cf_index.proofs.filters.first_filter.Goals as goal

pub bare_filter-requires-clause-few : goal.bare_filter-requires-clause-few
bare_filter-requires-clause-few c =
    let same = ap (λ (b : Block). length (flat_map paid_scripts b.txs)) c.in_ok-block.ensures in
    omega (arith, same, genesis_few)
