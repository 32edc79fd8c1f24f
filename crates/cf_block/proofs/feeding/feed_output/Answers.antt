use Rattle.std.proofs.Common.{ap, ◌∙◌}
use Rattle.std.specs.Int.{w64, to_le_bytes}
use Rattle.cf_bytes.specs.Lists.{counted_bytes}
use Rattle.cf_block.specs.Output.{Output}
use Rattle.cf_block.specs.Tx.{output_spelling}
use Rattle.cf_block.proofs.FedLemmas.{fed_then, fed_same}
use Rattle.cf_block.proofs.feeding.feed_output.Goals as goal

pub returns : goal.returns
unfolding output_spelling
returns c =
    let o = c.args.output.now in
    fed_then _ _ _ (to_le_bytes w64 o.value) _ (fed_same _ _ _ _ (c.to_le_bytes.ensures ∙ ap (to_le_bytes w64) c.amount.ensures.value) c.feed.ensures)
    (fed_same _ _ _ (counted_bytes o.script) (ap counted_bytes c.as_slice.ensures ∙ ap (λ (x : Output). counted_bytes x.script) c.output.view_is) c.feed_counted.ensures)
