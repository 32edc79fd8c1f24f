-- machine: the names that transactions touch: those of the coins that they spend, and those under which their outputs are put.
use Rattle.std.specs.Prelude.{◌≡◌, ℕ, suc, List, [], ◌∷◌, ◌++◌, Option, Some, None, Result, Ok, Err}
use Rattle.std.specs.FinMap.{get, insert}
use Rattle.cf_bytes.specs.declared.memory.Refused.{Refused}
use Rattle.cf_block.specs.declared.tx.OutPoint.{OutPoint}
use Rattle.cf_block.specs.declared.tx.Tx.{Tx}
use Rattle.cf_block.specs.Output.{Output}
use Rattle.cf_block.specs.Outpoint.{outpoint, spends_of}
use Rattle.cf_block.specs.Tx.{txid_of}
use Rattle.cf_chain.specs.Coins.{CoinMap}
use Rattle.cf_coins.specs.declared.fault.CoinFault.{CoinFault}
use Rattle.cf_coins.specs.Spending.{Refuses}

-- the names of a transaction's outputs, the first under this number
abbrev pub places : List ℕ → ℕ → List Output → List OutPoint
places txid index [] = []
places txid index (o ∷ os) = outpoint txid index ∷ places txid (suc index) os

-- the names that a transaction touches
unfoldable pub names_of : Tx → List OutPoint
names_of t = spends_of t ++ places (txid_of t) 0 t.outputs

-- those that transactions touch
unfoldable pub touched_outpoints : List Tx → List OutPoint
touched_outpoints [] = []
touched_outpoints (t ∷ ts) = names_of t ++ touched_outpoints ts

-- these coins and what was found under a name
abbrev pub with_found : CoinMap → OutPoint → Option Output → CoinMap
with_found few name None = few
with_found few name (Some o) = insert few name o

-- these coins, the second, and those of the first that have one of these names
abbrev pub with_named : CoinMap → CoinMap → List OutPoint → CoinMap
with_named coins few [] = few
with_named coins few (p ∷ ps) = with_named coins (with_found few p (get coins p)) ps

-- what a call answered that judges transactions and leaves the coins as they are
abbrev pub Judges : {X : Type 0} → Result CoinMap CoinFault → Result X (Refused CoinFault) → Type 0
Judges answer (Ok x) = (after : CoinMap) × (answer ≡ Ok after)
Judges answer (Err e) = Refuses answer e
