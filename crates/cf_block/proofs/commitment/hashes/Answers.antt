use Rattle.cf_block.proofs.CommitLemmas.{one_txid}
use Rattle.cf_block.proofs.commitment.hashes.Goals as goal

pub loop-tx-preserved : goal.loop-tx-preserved
loop-tx-preserved c = record {
  made = rw c.in_ok-push.ensures.items (one_txid c.args.txs.now c.loop-tx.tx-index c.tx-item.result c.loop-tx.hashes.items c.txid-hash.result c.loop-tx-test.true c.tx-item.is c.txid-hash.ensures c.loop-tx.invariant.made);
}
