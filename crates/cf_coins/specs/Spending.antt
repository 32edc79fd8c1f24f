-- statement: the check of a block's transactions against the coins: the coins after them, or the first fault.
use Rattle.std.specs.Prelude.{◌≡◌, ℕ, suc, not, if◌then◌else◌, List, [], ◌∷◌, map, Option, Some, None, Result, Ok, Err, is_some}
use Rattle.std.specs.List.{list_any}
use Rattle.std.specs.FinMap.{get, insert, remove}
use Rattle.cf_bytes.specs.Cut.{◌>>=◌}
use Rattle.cf_bytes.specs.declared.memory.Refused.{Refused}
use Rattle.cf_bytes.specs.declared.memory.Refused.TheVariants.{No, NoMemory}
use Rattle.cf_block.specs.declared.tx.OutPoint.{OutPoint}
use Rattle.cf_block.specs.declared.tx.TxIn.{TxIn}
use Rattle.cf_block.specs.declared.tx.Tx.{Tx}
use Rattle.cf_block.specs.Output.{Output}
use Rattle.cf_block.specs.Outpoint.{outpoint, spends_of}
use Rattle.cf_block.specs.Commitment.{is_coinbase_tx}
use Rattle.cf_block.specs.Tx.{txid_of}
use Rattle.cf_chain.specs.Coins.{CoinMap}
use Rattle.cf_coins.specs.declared.fault.CoinFault.{CoinFault}
use Rattle.cf_coins.specs.declared.fault.CoinFault.TheVariants.{NoCoinbase, SecondCoinbase, Missing, Exists}

-- the outputs that inputs name
abbrev pub prevs : List TxIn → List OutPoint
prevs inputs = map (λ i. i.prev) inputs

-- the scripts of outputs
abbrev pub scripts_of : List Output → List (List ℕ)
scripts_of outputs = map (λ o. o.script) outputs

-- these coins, where the named one was found
abbrev pub found : OutPoint → Option Output → CoinMap → Result CoinMap CoinFault
found name None coins = Err (Missing name)
found name (Some o) coins = Ok coins

-- coins taken out one by one
abbrev pub take_all : CoinMap → List OutPoint → Result CoinMap CoinFault
take_all coins [] = Ok coins
take_all coins (p ∷ ps) = found p (get coins p) (remove coins p) >>= λ c. take_all c ps

-- a transaction's outputs put in one by one, the first under this number
abbrev pub put_all : List ℕ → ℕ → CoinMap → List Output → Result CoinMap CoinFault
put_all txid index coins [] = Ok coins
put_all txid index coins (o ∷ os) =
    if is_some (get coins (outpoint txid index)) then Err (Exists (outpoint txid index))
    else put_all txid (suc index) (insert coins (outpoint txid index) o) os

-- the coins after a transaction: what it spends is taken out, and then its outputs are put in
unfoldable pub spend : CoinMap → Tx → Result CoinMap CoinFault
spend coins t = take_all coins (spends_of t) >>= λ c. put_all (txid_of t) 0 c t.outputs

-- the coins after transactions, one by one
unfoldable pub spend_all : CoinMap → List Tx → Result CoinMap CoinFault
spend_all coins [] = Ok coins
spend_all coins (t ∷ ts) = spend coins t >>= λ c. spend_all c ts

-- the coinbases are judged before all inputs
abbrev pub coinbase_fault : List Tx → Option CoinFault
coinbase_fault [] = Some NoCoinbase
coinbase_fault (t ∷ ts) =
    if not (is_coinbase_tx t) then Some NoCoinbase
    else if list_any is_coinbase_tx ts then Some SecondCoinbase
    else None

-- what was answered, unless there is this fault before it
abbrev pub unless_fault : Option CoinFault → Result CoinMap CoinFault → Result CoinMap CoinFault
unless_fault None r = r
unless_fault (Some fault) r = Err fault

-- the coins after a block's transactions, or the first thing that is wrong with what they spend and make
unfoldable pub spend_txs : CoinMap → List Tx → Result CoinMap CoinFault
spend_txs coins txs = unless_fault (coinbase_fault txs) (spend_all coins txs)

-- a fault that is found, or want of memory
abbrev pub Refuses : Result CoinMap CoinFault → Refused CoinFault → Type 0
Refuses answer (No fault) = answer ≡ Err fault
Refuses answer NoMemory = Unit {0}

-- what a call answered that changes coins
abbrev pub Gives : {X : Type 0} → Result CoinMap CoinFault → Result X (Refused CoinFault) → CoinMap → Type 0
Gives answer (Ok x) coins = answer ≡ Ok coins
Gives answer (Err e) coins = Refuses answer e
