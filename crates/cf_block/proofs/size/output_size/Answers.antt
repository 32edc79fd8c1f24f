use Rattle.std.proofs.Common.{◌+◌, ℕ, length, ap, ◌∙◌}
use Rattle.cf_bytes.specs.Compact.{compact}
use Rattle.cf_block.specs.Output.{Output}
use Rattle.cf_block.proofs.Sizes.{output_length, capped_more}
use Rattle.cf_block.proofs.size.output_size.Goals as goal

pub returns : goal.returns
returns c =
    let len = c.len.ensures ∙ ap (λ (o : Output). length o.script) c.output.view_is in
    capped_more _ _ _ 8 _ c.counted_size.ensures c.saturating_add.ensures (ap (λ (n : ℕ). length (compact n) + n + 8) len) (output_length c.args.output.now)
