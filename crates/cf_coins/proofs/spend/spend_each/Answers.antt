use Rattle.std.proofs.Common.{◌∙◌, sym, ap, arith, length-drop}
use Rattle.cf_block.specs.Tx.{txid_of}
use Rattle.cf_block.proofs.CommitLemmas.{id_at, ids_length}
use Rattle.cf_coins.proofs.Steps.{txs_fault, txs_next, txs_done, txs_spent}
use Rattle.cf_coins.proofs.spend.spend_each.Goals as goal

pub returns-in-Err-clause-exact : goal.returns-in-Err-clause-exact
returns-in-Err-clause-exact c = txs_fault c.loop-i.coins _ c.index-txs-i.result _ c.args.txs.now c.loop-i.i c.in-Err.e c.loop-i.invariant.exact (omega arith) c.index-txs-i.is c.in-Err.ensures.exact

pub loop-i-preserved : goal.loop-i-preserved
loop-i-preserved c = record {
  exact = c.loop-i.invariant.exact ∙ txs_next c.loop-i.coins c.spend_tx.new.coins c.index-txs-i.result _ c.args.txs.now c.loop-i.i (omega arith) c.index-txs-i.is c.in-Ok.ensures.exact;
  taken = txs_spent c.loop-i.spent.items c.spend_tx.new.spent.items _ c.loop-i.coins c.spend_tx.new.coins c.index-txs-i.result _ c.args.txs.now c.loop-i.i (omega arith) c.index-txs-i.is c.in-Ok.ensures.exact c.in-Ok.ensures.spent c.loop-i.invariant.taken;
}

pub returns-clause-exact : goal.returns-clause-exact
returns-clause-exact c = c.loop-i.invariant.exact ∙ txs_done c.loop-i.coins _ (omega (arith, length-drop c.loop-i.i c.args.txs.now))

pub bounds-txids-i : goal.bounds-txids-i
bounds-txids-i c = omega (arith, ids_length c.args.txids.now c.args.txs.now c.requires.hashes)

pub spend_tx-requires-clause-hash : goal.spend_tx-requires-clause-hash
spend_tx-requires-clause-hash c =
    id_at c.args.txids.now c.args.txs.now c.loop-i.i _ _ c.requires.hashes (omega arith) ∙ ap txid_of (sym c.index-txs-i.is)
