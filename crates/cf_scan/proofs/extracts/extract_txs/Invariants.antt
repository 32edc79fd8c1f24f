use Rattle.std.proofs.Common.{◌≡◌, map, take}
use Rattle.cf_scan.specs.Extract.{tx_extract_of}
use Rattle.cf_scan.proofs.extracts.extract_txs.Given as goal

abbrev pub invariant-loop-i : goal.invariant-loop-i
invariant-loop-i l = l.out.items ≡ map (tx_extract_of l.watch) (take l.i l.txs)
