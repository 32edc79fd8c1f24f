use Rattle.std.proofs.Common.{length, ap, ◌∙◌}
use Rattle.std.specs.List.{flat_map}
use Rattle.cf_bytes.specs.Compact.{compact}
use Rattle.cf_block.specs.Size.{capped}
use Rattle.cf_block.specs.Tx.{input_spelling, output_spelling}
use Rattle.cf_block.proofs.Sizes.{tx_length, capped_sum}
use Rattle.cf_block.proofs.size.tx_size.Goals as goal

pub returns : goal.returns
returns c =
    let t = c.args.t.now in
    capped_sum _ _ _ _ _ _ _ _ _ _ (c.sizes.ensures input_spelling (λ _ _ is. is) ∙ ap (λ xs. capped (length (flat_map input_spelling xs))) c.as_slice.ensures)
    (c.sizes-2.ensures output_spelling (λ _ _ is. is) ∙ ap (λ xs. capped (length (flat_map output_spelling xs))) c.as_slice-2.ensures)
    (c.compact_size.ensures.exact ∙ ap (λ n. length (compact n)) c.len.ensures) (c.compact_size-2.ensures.exact ∙ ap (λ n. length (compact n)) c.len-2.ensures)
    c.saturating_add.ensures c.saturating_add-2.ensures (tx_length t)
