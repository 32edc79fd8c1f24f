use Rattle.std.proofs.Common.{sym, ◌∙◌, arith}
use Rattle.cf_block.proofs.Halving.{twins_short}
use Rattle.cf_block.proofs.merkle.has_twins.Goals as goal

pub returns : goal.returns
returns c = sym (c.loop-rest.invariant ∙ twins_short c.loop-rest.rest.now (omega (arith, c.in_default.len_below)))
