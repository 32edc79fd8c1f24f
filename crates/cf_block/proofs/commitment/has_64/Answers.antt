use Rattle.std.proofs.Common.{length}
use Rattle.cf_block.specs.Tx.{tx_spelling}
use Rattle.cf_block.proofs.CommitLemmas.{found_64, is_64_by}
use Rattle.cf_block.proofs.commitment.has_64.Goals as goal

pub returns-then-tx_size-eq64 : goal.returns-then-tx_size-eq64
returns-then-tx_size-eq64 c =
    let size = is_64_by (length (tx_spelling c.tx-item.result)) c.tx_size.result c.tx_size.ensures c.if-tx_size-eq64.true in
    found_64 c.args.txs.now c.loop-tx.tx-index c.tx-item.result c.loop-tx-test.true c.tx-item.is size
