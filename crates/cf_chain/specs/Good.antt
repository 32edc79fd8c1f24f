-- statement: which chains of blocks are good: what a full node of regtest asks of blocks without looking into scripts or amounts (Bitcoin developer
-- reference, "Block Chain"; BIP 30 in its narrow wording). How it is checked isn't said here.
use Rattle.std.specs.Prelude.{◌≡◌, ℕ, suc, ◌≤◌, true, false, List, [], ◌∷◌, map, reverse, length, None, is_some, IsTrue}
use Rattle.std.specs.FinMap.{get, insert, remove, empty}
use Rattle.cf_block.specs.Output.{Output}
use Rattle.cf_block.specs.Outpoint.{outpoint, spends_of}
use Rattle.cf_block.specs.Commitment.{is_coinbase_tx, IsCommitted}
use Rattle.cf_block.specs.Tx.{txid_of, IsBlock}
use Rattle.cf_block.specs.declared.tx.OutPoint.{OutPoint}
use Rattle.cf_block.specs.declared.tx.Tx.{Tx}
use Rattle.cf_block.specs.declared.tx.Block.{Block}
use Rattle.cf_headers.specs.Chain.{Chain, height_limit, IsValidChain}
use Rattle.cf_chain.specs.Coins.{CoinMap, without, after_tx, after_block}

-- the names are distinct, and each is a coin's
abbrev pub AllStand : CoinMap → List OutPoint → Type 0
AllStand coins [] = Unit {0}
AllStand coins (p ∷ ps) = IsTrue (is_some (get coins p)) × AllStand (remove coins p) ps

-- no output is put over a standing one; the first has this number
abbrev pub NoneStands : List ℕ → ℕ → CoinMap → List Output → Type 0
NoneStands txid index coins [] = Unit {0}
NoneStands txid index coins (o ∷ os) =
    (get coins (outpoint txid index) ≡ None) × NoneStands txid (suc index) (insert coins (outpoint txid index) o) os

-- a transaction that spends coins as they stand, each once, and puts its outputs over none
pub record IsGoodTx (coins : CoinMap) (t : Tx) : Type 0 where
  pub inputs : AllStand coins (spends_of t)
  pub fresh : NoneStands (txid_of t) 0 (without coins (spends_of t)) t.outputs

-- transactions each of which is good after these coins and the ones before it
abbrev pub AreGoodTxs : CoinMap → List Tx → Type 0
AreGoodTxs coins [] = Unit {0}
AreGoodTxs coins (t ∷ ts) = IsGoodTx coins t × AreGoodTxs (after_tx coins t) ts

-- none of these transactions is a coinbase
abbrev pub NoCoinbases : List Tx → Type 0
NoCoinbases [] = Unit {0}
NoCoinbases (t ∷ ts) = (is_coinbase_tx t ≡ false) × NoCoinbases ts

-- the first transaction, and no other, is a coinbase
abbrev pub HasOneCoinbase : List Tx → Type 0
HasOneCoinbase [] = ⊥
HasOneCoinbase (t ∷ ts) = (is_coinbase_tx t ≡ true) × NoCoinbases ts

-- a block that is good after these coins, its header apart
pub record IsGoodBlock (coins : CoinMap) (b : Block) : Type 0 where
  pub spelled : IsBlock b
  pub committed : IsCommitted b
  pub coinbase : HasOneCoinbase b.txs
  pub txs : AreGoodTxs coins b.txs

-- blocks, the lowest first, each of which is good after these coins and the ones below it, its header apart
abbrev pub AreGoodBlocks : CoinMap → List Block → Type 0
AreGoodBlocks coins [] = Unit {0}
AreGoodBlocks coins (b ∷ bs) = IsGoodBlock coins b × AreGoodBlocks (after_block coins b) bs

-- the headers of blocks above genesis, the lowest block first, as a chain, whose tip is first
abbrev pub headers_of : List Block → Chain
headers_of blocks = reverse (map (λ b. b.header) blocks)

-- blocks above genesis, the lowest first
pub record IsGoodChain (blocks : List Block) : Type 0 where
  pub headers : IsValidChain (headers_of blocks)
  pub height : length blocks ≤ height_limit
  pub each : AreGoodBlocks empty blocks
