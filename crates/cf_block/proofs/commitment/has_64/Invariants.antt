use Rattle.std.proofs.Common.{◌≡◌, false, map, take}
use Rattle.std.specs.List.{list_any}
use Rattle.cf_block.specs.Tx.{tx_spelling}
use Rattle.cf_block.specs.Commitment.{has_64}
use Rattle.cf_block.proofs.commitment.has_64.Given as goal

abbrev pub invariant-loop-tx : goal.invariant-loop-tx
invariant-loop-tx l = record { none : list_any has_64 (map tx_spelling (take l.tx-index l.txs)) ≡ false }
