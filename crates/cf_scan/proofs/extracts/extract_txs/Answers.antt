use Rattle.std.proofs.Common.{◌∙◌, sym, ap, arith}
use Rattle.cf_block.specs.Tx.{txid_of}
use Rattle.cf_block.proofs.CommitLemmas.{id_at, ids_length}
use Rattle.cf_scan.proofs.extracts.extract_txs.Goals as goal

pub bounds-txids-i : goal.bounds-txids-i
bounds-txids-i c = omega (arith, ids_length c.args.txids.now c.args.txs.now c.requires)

pub extract_tx-requires : goal.extract_tx-requires
extract_tx-requires c = id_at c.args.txids.now c.args.txs.now c.loop-i.i _ _ c.requires (omega arith) ∙ ap txid_of (sym c.index-txs-i.is)
