-- statement: what of a block its history needs.
use Rattle.std.specs.Prelude.{ℕ, suc, if◌then◌else◌, List, [], ◌∷◌, ◌++◌, map}
use Rattle.cf_block.specs.declared.tx.Tx.{Tx}
use Rattle.cf_block.specs.declared.tx.Block.{Block}
use Rattle.cf_block.specs.Output.{Output}
use Rattle.cf_block.specs.Outpoint.{spends_of}
use Rattle.cf_block.specs.Tx.{txid_of}
use Rattle.cf_scan.specs.declared.extracts.Paid.{Paid}
use Rattle.cf_scan.specs.declared.extracts.TxExtract.{TxExtract}
use Rattle.cf_scan.specs.Watching.{is_watched}

-- the outputs to watched scripts, the first of these outputs being the one of this number
abbrev pub pays_from : ℕ → List (List ℕ) → List Output → List Paid
pays_from i watch [] = []
pays_from i watch (o ∷ os) =
    (if is_watched watch o.script then record { index = i; output = o } ∷ [] else []) ++ pays_from (suc i) watch os

-- a transaction's hash, every outpoint that it spends, watched or not, and its outputs to watched scripts
abbrev pub tx_extract_of : List (List ℕ) → Tx → TxExtract
tx_extract_of watch t = record { txid = record { 0 = txid_of t }; spends = spends_of t; pays = pays_from 0 watch t.outputs }

-- of each transaction, in the block's order
abbrev pub extract_of : Block → List (List ℕ) → List TxExtract
extract_of b watch = map (tx_extract_of watch) b.txs
