use Rattle.std.proofs.Common.{ap}
use Rattle.std.specs.Int.{w32, to_le_bytes}
use Rattle.cf_bytes.specs.Lists.{counted_bytes}
use Rattle.cf_block.specs.Tx.{input_spelling}
use Rattle.cf_block.proofs.FedLemmas.{fed_then, fed_same}
use Rattle.cf_block.proofs.feeding.feed_input.Goals as goal

pub returns : goal.returns
unfolding input_spelling
returns c =
    let i = c.args.input.now in
    fed_then _ _ _ i.prev.txid.0 _ c.feed.ensures
    (fed_then _ _ _ (to_le_bytes w32 i.prev.index) _ (fed_same _ _ _ _ c.to_le_bytes.ensures c.feed-2.ensures)
    (fed_then _ _ _ (counted_bytes i.script) _ (fed_same _ _ _ _ (ap counted_bytes c.as_slice.ensures) c.feed_counted.ensures)
    (fed_same _ _ _ (to_le_bytes w32 i.sequence) c.to_le_bytes-2.ensures c.feed-3.ensures)))
