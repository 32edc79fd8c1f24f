use Rattle.std.proofs.Common.{rules, length, ap, ◌∙◌}
use Rattle.std.proofs.Math.Facts.{to_z-of_z}
use Rattle.std.specs.Int.{w32, to_le_bytes, cast_unsigned}
use Rattle.std.specs.List.{flat_map}
use Rattle.cf_bytes.specs.Compact.{compact}
use Rattle.cf_block.specs.Tx.{input_spelling, output_spelling, tx_spelling}
use Rattle.cf_block.proofs.FedLemmas.{fed_then, fed_same}
use Rattle.cf_block.proofs.feeding.feed_tx.Goals as goal

pub returns : goal.returns
unfolding tx_spelling
returns c =
    let t = c.args.t.now in
    fed_then _ _ _ (to_le_bytes w32 (cast_unsigned w32 t.version)) _
    (fed_same _ _ _ _ (c.to_le_bytes.ensures ∙ ap (to_le_bytes w32) c.cast_unsigned.ensures ∙ ap (λ z. to_le_bytes w32 (cast_unsigned w32 z)) (to_z-of_z {w = w32} {z = t.version} (search rules))) c.feed.ensures)
    (fed_then _ _ _ (compact (length t.inputs)) _ (fed_same _ _ _ _ (ap compact c.len.ensures) c.feed_compact.ensures)
    (fed_then _ _ _ (flat_map input_spelling t.inputs) _ (fed_same _ _ _ _ (ap (flat_map input_spelling) c.as_slice.ensures) c.feed_inputs.ensures)
    (fed_then _ _ _ (compact (length t.outputs)) _ (fed_same _ _ _ _ (ap compact c.len-2.ensures) c.feed_compact-2.ensures)
    (fed_then _ _ _ (flat_map output_spelling t.outputs) _ (fed_same _ _ _ _ (ap (flat_map output_spelling) c.as_slice-2.ensures) c.feed_outputs.ensures)
    (fed_same _ _ _ (to_le_bytes w32 t.lock_time) c.to_le_bytes-2.ensures c.feed-2.ensures)))))
