use Rattle.std.proofs.Common.{◌≡◌, ◌++◌, map, length}
use Rattle.cf_scan.specs.Extract.{tx_extract_of}
use Rattle.cf_scan.proofs.lent.extract_view.Given as goal

abbrev pub invariant-loop-tx : goal.invariant-loop-tx
invariant-loop-tx l =
    record { all : l.out.items ++ map (tx_extract_of l.watch) l.txs ≡ map (tx_extract_of l.watch) l.block.txs }

abbrev pub decreases-loop-tx : goal.decreases-loop-tx
decreases-loop-tx l = length l.txs
