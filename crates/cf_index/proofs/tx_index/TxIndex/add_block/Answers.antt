use Rattle.std.proofs.Common.{arith}
use Rattle.std.specs.FinMap.{get}
use Rattle.cf_index.proofs.Finding.{place_added}
use Rattle.cf_index.proofs.tx_index.TxIndex.add_block.Goals as goal

pub loop-txid-preserved : goal.loop-txid-preserved
loop-txid-preserved c = record {
  at = omega arith;
  so_far = λ txid. place_added c.loop-txid.self c.add.new.self c.args.height (get c.args.self.now txid) c.args.txids.now c.loop-txid.txid-index c.loop-txid.place _ txid (omega arith) c.loop-txid.invariant.at
      c.in_ok-add.ensures.ok (c.loop-txid.invariant.so_far txid);
}
