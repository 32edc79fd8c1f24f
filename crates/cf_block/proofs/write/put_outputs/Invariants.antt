use Rattle.std.proofs.Common.{◌≡◌, ◌++◌, take}
use Rattle.std.specs.List.{flat_map}
use Rattle.cf_block.specs.Tx.{output_spelling}
use Rattle.cf_block.proofs.write.put_outputs.Given as goal

abbrev pub invariant-loop-output : goal.invariant-loop-output
invariant-loop-output l = record { written : l.out.items ≡ l.fn.out.items ++ flat_map output_spelling (take l.output-index l.outputs) }
