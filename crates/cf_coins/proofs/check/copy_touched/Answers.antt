use Rattle.std.proofs.Common.{◌∙◌, sym, ap, arith, length-drop}
use Rattle.cf_block.specs.Tx.{txid_of}
use Rattle.cf_block.proofs.CommitLemmas.{id_at, ids_length}
use Rattle.cf_coins.proofs.Touching.{touched_next, touched_none}
use Rattle.cf_coins.proofs.check.copy_touched.Goals as goal

pub loop-i-preserved : goal.loop-i-preserved
loop-i-preserved c = record {
  rest = c.loop-i.invariant.rest
      ∙ touched_next c.args.coins.now c.loop-i.few c.copy_names.new.few c.index-txs-i.result _ c.args.txs.now c.loop-i.i (omega arith) c.index-txs-i.is (c.in_ok-copy_names.ensures {u = tt});
}

pub returns : goal.returns
returns c = sym (c.loop-i.invariant.rest ∙ touched_none c.args.coins.now c.loop-i.few _ (omega (arith, length-drop c.loop-i.i c.args.txs.now)))

pub bounds-txids-i : goal.bounds-txids-i
bounds-txids-i c = omega (arith, ids_length c.args.txids.now c.args.txs.now c.requires.hashes)

pub copy_names-requires-clause-hash : goal.copy_names-requires-clause-hash
copy_names-requires-clause-hash c =
    id_at c.args.txids.now c.args.txs.now c.loop-i.i _ _ c.requires.hashes (omega arith) ∙ ap txid_of (sym c.index-txs-i.is)
