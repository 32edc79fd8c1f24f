-- The history of the extracts in a table is the scan over the fetched blocks.
use Rattle.std.proofs.Common.{◌≡◌, inl, inr, ℕ, suc, List, [], ◌∷◌, ◌++◌, reverse, Option, Some, None, refl, ◌∙◌, ap}
use Rattle.std.specs.Prelude.{fold}
use Rattle.cf_block.specs.declared.header.Header.{Header}
use Rattle.cf_block.specs.declared.tx.Block.{Block}
use Rattle.cf_block.specs.Header.{block_hash_of}
use Rattle.cf_headers.specs.Chain.{Chain}
use Rattle.cf_wires.specs.Log.{Log}
use Rattle.cf_scan.specs.declared.extracts.Placed.{Placed}
use Rattle.cf_scan.specs.declared.extracts.TxExtract.{TxExtract}
use Rattle.cf_scan.specs.Scan.{Scanned, unscanned, after_tx, scan_from}
use Rattle.cf_scan.specs.Extracts.{after_placed, history_of}
use Rattle.cf_scan.proofs.HistoryLaws.{extract_block}
use Rattle.cf_tables.specs.Tables.{placed_one, placed_by}
use Rattle.cf_tables.specs.Known.{ExtractTable}
use Rattle.cf_sync.specs.Fetching.{StandFor, IsScanOver}
use Rattle.cf_holds.specs.Known.{HoldsFetched}

-- blocks that stand for headers, and whose scan the extracts give
record Scans (watch : List (List ℕ)) (log : Log) (headers : List Header) (height : ℕ) (placed : List Placed) : Type 0 where
  blocks : List Block
  stand : StandFor log headers blocks
  scans : (s : Scanned) → fold after_placed s placed ≡ scan_from height watch s blocks

one_more : (watch : List (List ℕ)) (log : Log) (table : ExtractTable) → HoldsFetched watch log table → (h : Header) (headers : List Header) (height : ℕ) (placed : List Placed)
    → Scans watch log headers (suc height) placed → (o : Option (List TxExtract)) → table (block_hash_of h) ≡ o → Scans watch log (h ∷ headers) height (placed_one height o ++ placed)
one_more watch log table holds h headers height placed more None e = record {
  blocks = record { header = h; txs = [] } ∷ more.blocks;
  stand = (inr (holds.complete (block_hash_of h) e, refl), more.stand);
  scans = more.scans;
}
one_more watch log table holds h headers height placed more (Some x) e =
    let w = holds.sound (block_hash_of h) x e in
    record {
      blocks = w.0 ∷ more.blocks;
      stand = (inl (w.1, w.2), more.stand);
      scans = λ s.
          ap (λ (y : List TxExtract). fold after_placed (after_placed s (record { height = height; extract = y })) placed) w.3
          ∙ ap (λ (n : Scanned). fold after_placed n placed) (extract_block watch height s w.0)
          ∙ more.scans (fold (after_tx watch height) s w.0.txs);
    }

scans_of : (watch : List (List ℕ)) (log : Log) (table : ExtractTable) → HoldsFetched watch log table → (headers : List Header) (height : ℕ) → Scans watch log headers height (placed_by table height headers)
scans_of watch log table holds [] height = record { blocks = []; stand = tt; scans = λ s. refl }
scans_of watch log table holds (h ∷ headers) height =
    one_more watch log table holds h headers height (placed_by table (suc height) headers) (scans_of watch log table holds headers (suc height)) (table (block_hash_of h)) refl

pub history_over : (watch : List (List ℕ)) (log : Log) (table : ExtractTable) → HoldsFetched watch log table → (chain : Chain) → IsScanOver watch log chain (history_of (placed_by table 1 (reverse chain)))
history_over watch log table holds chain =
    let w = scans_of watch log table holds (reverse chain) 1 in
    record { blocks = w.blocks; taken = w.stand; history = ap (λ (s : Scanned). s.entries) (w.scans unscanned) }
