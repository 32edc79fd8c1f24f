use Rattle.std.proofs.Common.{◌≡◌, ◌++◌, drop}
use Rattle.cf_scan.specs.Extract.{pays_from}
use Rattle.cf_scan.proofs.extracts.watched_outputs.Given as goal

abbrev pub invariant-loop-place : goal.invariant-loop-place
invariant-loop-place l = record {
  rest : l.pays ++ pays_from l.place l.watch (drop l.place l.outputs) ≡ pays_from 0 l.watch l.outputs;
}
