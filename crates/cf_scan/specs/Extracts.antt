-- machine: what is kept of a block that was fetched, and the history that is told from it.
use Rattle.std.specs.Prelude.{ℕ, suc, List, [], ◌∷◌, fold, map}
use Rattle.cf_block.specs.declared.tx.OutPoint.{OutPoint}
use Rattle.cf_block.specs.declared.tx.Block.{Block}
use Rattle.cf_block.specs.Outpoint.{outpoint}
use Rattle.cf_scan.specs.declared.extracts.Paid.{Paid}
use Rattle.cf_scan.specs.declared.extracts.TxExtract.{TxExtract}
use Rattle.cf_scan.specs.declared.extracts.Placed.{Placed}
use Rattle.cf_scan.specs.declared.history.Entry.{Entry}
use Rattle.cf_scan.specs.Scan.{Scanned, unscanned, after_change}
use Rattle.cf_scan.specs.Extract.{extract_of}

-- the extracts of blocks with their heights, the first of them at this one
abbrev pub placed_from : ℕ → List Block → List (List ℕ) → List Placed
placed_from height [] watch = []
placed_from height (b ∷ bs) watch = record { height = height; extract = extract_of b watch } ∷ placed_from (suc height) bs watch

-- the extracts of the blocks above genesis, the first of them at height 1
abbrev pub extracts_of : List Block → List (List ℕ) → List Placed
extracts_of blocks watch = placed_from 1 blocks watch

-- an output as a coin
abbrev pub coin_of : List ℕ → Paid → OutPoint × ℕ
coin_of txid p = (outpoint txid p.index, p.output.value)

-- one transaction more
unfoldable pub after_extract : ℕ → Scanned → TxExtract → Scanned
after_extract height s e = after_change height s e.txid.0 e.spends (map (coin_of e.txid.0) e.pays)

-- one block more
unfoldable pub after_placed : Scanned → Placed → Scanned
after_placed s b = fold (after_extract b.height) s b.extract

-- the entries of these extracts, in this order
abbrev pub history_of : List Placed → List Entry
history_of blocks = (fold after_placed unscanned blocks).entries
