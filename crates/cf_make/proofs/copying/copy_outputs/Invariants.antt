use Rattle.std.proofs.Common.{◌≡◌, take}
use Rattle.cf_make.proofs.copying.copy_outputs.Given as goal

abbrev pub invariant-loop-output : goal.invariant-loop-output
invariant-loop-output l = record { copied : l.copy ≡ take l.output-index l.outputs }
