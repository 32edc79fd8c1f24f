use Rattle.std.proofs.Common.{◌≡◌, map, take}
use Rattle.cf_scan.proofs.extracts.named_outpoints.Given as goal

abbrev pub invariant-loop-input : goal.invariant-loop-input
invariant-loop-input l = l.spends ≡ map (λ i. i.prev) (take l.input-index l.inputs)
