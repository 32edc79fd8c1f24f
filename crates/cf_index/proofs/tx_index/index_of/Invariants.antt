use Rattle.std.proofs.Common.{◌≡◌, ◌+◌, drop, map}
use Rattle.std.specs.FinMap.{get}
use Rattle.std.specs.Option.{option_or}
use Rattle.cf_bytes.specs.declared.hash.Hash32.{Hash32}
use Rattle.cf_block.specs.Views.{bytes_of}
use Rattle.cf_index.specs.Finding.{found_from}
use Rattle.cf_index.proofs.tx_index.index_of.Given as goal

abbrev pub invariant-loop-txids : goal.invariant-loop-txids
invariant-loop-txids l = record {
  at : l.height ≡ l.txids-index + 1;
  rest : (txid : Hash32) → found_from 1 txid.0 (map bytes_of l.blocks) ≡ option_or (get l.index txid) (found_from l.height txid.0 (map bytes_of (drop l.txids-index l.blocks)));
}
