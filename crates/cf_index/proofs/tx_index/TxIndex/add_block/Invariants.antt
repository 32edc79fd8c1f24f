use Rattle.std.proofs.Common.{◌≡◌, take}
use Rattle.std.specs.FinMap.{get}
use Rattle.std.specs.Option.{option_or}
use Rattle.cf_bytes.specs.declared.hash.Hash32.{Hash32}
use Rattle.cf_block.specs.Views.{bytes_of}
use Rattle.cf_index.specs.Finding.{place_at}
use Rattle.cf_index.proofs.tx_index.TxIndex.add_block.Given as goal

abbrev pub invariant-loop-txid : goal.invariant-loop-txid
invariant-loop-txid l = record {
  at : l.place ≡ l.txid-index;
  so_far : (txid : Hash32) → get l.self txid ≡ option_or (get l.initial.self txid) (place_at l.height txid.0 (bytes_of (take l.txid-index l.txids)));
}
