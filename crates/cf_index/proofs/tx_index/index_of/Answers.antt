use Rattle.std.proofs.Common.{List, ◌∙◌, refl, ap, sym, arith, map}
use Rattle.std.specs.FinMap.{get, get-empty}
use Rattle.std.specs.Option.{option_or}
use Rattle.cf_bytes.specs.declared.hash.Hash32.{Hash32}
use Rattle.cf_block.specs.Views.{bytes_of}
use Rattle.cf_index.specs.ByHash.{hash_cmp}
use Rattle.cf_index.specs.Finding.{PlaceMap, found_from, place_at}
use Rattle.cf_index.proofs.Finding.{block_added, all_added}
use Rattle.cf_index.proofs.tx_index.index_of.Goals as goal

pub loop-txids-init : goal.loop-txids-init
loop-txids-init c = record {
  at = refl;
  rest = λ txid. ap (λ o. option_or o (found_from 1 txid.0 (map bytes_of c.args.blocks.now))) (sym (ap (λ (m : PlaceMap). get m txid) c.new-index.ensures ∙ get-empty hash_cmp txid));
}

pub loop-txids-preserved : goal.loop-txids-preserved
loop-txids-preserved c = record {
  at = omega arith;
  rest = λ txid. block_added (found_from 1 txid.0 (map bytes_of c.args.blocks.now)) (get c.loop-txids.index txid) (get c.add_block.new.self txid) c.loop-txids.height txid.0 c.args.blocks.now
      c.loop-txids.txids-index c.txids-item.result (omega arith) c.txids-item.is
      (c.in_ok-add_block.ensures txid ∙ ap (λ (l : List Hash32). option_or (get c.loop-txids.index txid) (place_at c.loop-txids.height txid.0 (bytes_of l))) c.as_slice.ensures)
      (c.loop-txids.invariant.rest txid);
}

pub returns : goal.returns
returns c = λ txid. all_added (found_from 1 txid.0 (map bytes_of c.args.blocks.now)) (get c.loop-txids.index txid) c.loop-txids.height txid.0 c.args.blocks.now c.loop-txids.txids-index (omega arith)
    (c.loop-txids.invariant.rest txid)
