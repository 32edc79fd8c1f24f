use Rattle.std.proofs.Common.{take}
use Rattle.std.specs.List.{flat_map}
use Rattle.cf_block.specs.Fed.{Fed}
use Rattle.cf_block.specs.Tx.{input_spelling}
use Rattle.cf_block.proofs.feeding.feed_inputs.Given as goal

abbrev pub invariant-loop-input : goal.invariant-loop-input
invariant-loop-input l = Fed l.fn.hasher l.hasher (flat_map input_spelling (take l.input-index l.inputs))
