use Rattle.std.proofs.Common.{◌≡◌, map, length}
use Rattle.std.specs.List.{list_any}
use Rattle.cf_block.specs.Tx.{tx_spelling}
use Rattle.cf_block.specs.Commitment.{has_64}
use Rattle.cf_view.proofs.commitment.has_long.Given as goal

abbrev pub invariant-loop-tx : goal.invariant-loop-tx
invariant-loop-tx l =
    record { same : list_any has_64 (map tx_spelling l.b.txs) ≡ list_any has_64 (map tx_spelling l.txs) }

abbrev pub decreases-loop-tx : goal.decreases-loop-tx
decreases-loop-tx l = length l.txs
