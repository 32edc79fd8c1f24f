use Rattle.std.proofs.Common.{◌≡◌, ◌++◌, length}
use Rattle.cf_scan.specs.Extract.{pays_from}
use Rattle.cf_scan.proofs.lent.outputs_of.Given as goal

abbrev pub invariant-loop-output : goal.invariant-loop-output
invariant-loop-output l =
    record { all : l.pays ++ pays_from l.place l.watch l.outputs ≡ pays_from 0 l.watch l.fn.outputs }

abbrev pub decreases-loop-output : goal.decreases-loop-output
decreases-loop-output l = length l.outputs
