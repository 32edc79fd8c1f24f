use Rattle.std.proofs.Common.{◌+◌, ℕ, length, ap}
use Rattle.cf_bytes.specs.Compact.{compact}
use Rattle.cf_block.proofs.Sizes.{input_length, capped_more}
use Rattle.cf_block.proofs.size.input_size.Goals as goal

pub returns : goal.returns
returns c =
    capped_more _ _ _ _ _ c.counted_size.ensures c.saturating_add.ensures (ap (λ (n : ℕ). length (compact n) + n + c.fixed_size.result) c.len.ensures) (input_length c.args.input.now c.fixed_size.result c.fixed_size.ensures.exact)
