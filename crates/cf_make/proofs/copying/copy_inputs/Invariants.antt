use Rattle.std.proofs.Common.{◌≡◌, take}
use Rattle.cf_make.proofs.copying.copy_inputs.Given as goal

abbrev pub invariant-loop-input : goal.invariant-loop-input
invariant-loop-input l = record { copied : l.copy ≡ take l.input-index l.inputs }
