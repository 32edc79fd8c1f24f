use Rattle.std.proofs.Common.{◌≡◌, take}
use Rattle.cf_make.proofs.copying.copy_txs.Given as goal

abbrev pub invariant-loop-tx : goal.invariant-loop-tx
invariant-loop-tx l = record { copied : l.copy ≡ take l.tx-index l.txs }
