use Rattle.std.proofs.Common.{◌≡◌, ◌++◌, take}
use Rattle.std.specs.List.{flat_map}
use Rattle.cf_block.specs.Tx.{input_spelling}
use Rattle.cf_block.proofs.write.put_inputs.Given as goal

abbrev pub invariant-loop-input : goal.invariant-loop-input
invariant-loop-input l = record { written : l.out.items ≡ l.fn.out.items ++ flat_map input_spelling (take l.input-index l.inputs) }
