-- statement: the coins of a chain: the outputs that nothing has spent yet (Bitcoin developer reference, "Transactions").
use Rattle.std.specs.Prelude.{ℕ, suc, List, [], ◌∷◌, ◌++◌, fold, refl, option_to_list}
use Rattle.std.specs.Coded.{Coded, code_by, coded×, coded_ℕ, coded_list}
use Rattle.std.specs.FinMap.{FinMap, code, get, insert, remove}
use Rattle.cf_block.specs.Output.{Output}
use Rattle.cf_block.specs.Outpoint.{outpoint_cmp, outpoint_code, outpoint, spends_of}
use Rattle.cf_block.specs.Tx.{txid_of}
use Rattle.cf_block.specs.declared.tx.OutPoint.{OutPoint}
use Rattle.cf_block.specs.declared.tx.Tx.{Tx}
use Rattle.cf_block.specs.declared.tx.Block.{Block}

-- outputs by their outpoints
abbrev pub CoinMap : Type 0
CoinMap = FinMap outpoint_cmp Output

abbrev pub output_code : Coded Output
output_code =
    code_by (ℕ × List ℕ) (coded× coded_ℕ (coded_list coded_ℕ)) (λ o. (o.value, o.script))
    (λ e. record { value = e.0; script = e.1 }) (λ _. refl)

abbrev pub coins_code : Coded CoinMap
coins_code = code outpoint_code output_code

-- with these coins taken out
abbrev pub without : CoinMap → List OutPoint → CoinMap
without coins names = fold remove coins names

-- with a transaction's outputs put in, the first under this number
abbrev pub with_outputs : List ℕ → ℕ → CoinMap → List Output → CoinMap
with_outputs txid index coins [] = coins
with_outputs txid index coins (o ∷ os) = with_outputs txid (suc index) (insert coins (outpoint txid index) o) os

-- the coins after a transaction: its inputs' taken out, its outputs put in
abbrev pub after_tx : CoinMap → Tx → CoinMap
after_tx coins t = with_outputs (txid_of t) 0 (without coins (spends_of t)) t.outputs

-- the coins after a block's transactions, in their order
abbrev pub after_block : CoinMap → Block → CoinMap
after_block coins b = fold after_tx coins b.txs

-- after blocks, the lowest first. A chain's blocks above genesis begin with no coins: genesis's output can't be spent.
abbrev pub coins_after : CoinMap → List Block → CoinMap
coins_after coins blocks = fold after_block coins blocks

-- the coins that these names take out, in order
abbrev pub spent_outputs : CoinMap → List OutPoint → List Output
spent_outputs coins [] = []
spent_outputs coins (p ∷ ps) = option_to_list (get coins p) ++ spent_outputs (remove coins p) ps

-- the coins that transactions spend, in order
abbrev pub spent_by : CoinMap → List Tx → List Output
spent_by coins [] = []
spent_by coins (t ∷ ts) = spent_outputs coins (spends_of t) ++ spent_by (after_tx coins t) ts
