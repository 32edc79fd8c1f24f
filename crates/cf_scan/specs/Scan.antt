-- statement: the plain scan: the history that a watcher has who reads every transaction of every block, from height 1 on.
use Rattle.std.specs.Prelude.{ℕ, suc, Bool, not, ◌||◌, ◌==◌, if◌then◌else◌, List, [], ◌∷◌, ◌++◌, fold, sum, sum_by, length, zero}
use Rattle.std.specs.Option.{option_to_list}
use Rattle.std.specs.FinMap.{get, insert, remove, empty}
use Rattle.cf_block.specs.declared.tx.OutPoint.{OutPoint}
use Rattle.cf_block.specs.declared.tx.Tx.{Tx}
use Rattle.cf_block.specs.declared.tx.Block.{Block}
use Rattle.cf_block.specs.Output.{Output}
use Rattle.cf_block.specs.Outpoint.{outpoint, spends_of}
use Rattle.cf_block.specs.Tx.{txid_of}
use Rattle.cf_scan.specs.declared.history.Entry.{Entry}
use Rattle.cf_scan.specs.Coins.{WatchedMap, total}
use Rattle.cf_scan.specs.Watching.{is_watched}

-- the values of the coins that were taken out, and the coins that stay
abbrev pub Taking : Type 0
Taking = List ℕ × WatchedMap

-- a coin is taken out, where it is there
abbrev pub take_one : Taking → OutPoint → Taking
take_one t p = (t.0 ++ option_to_list (get t.1 p), remove t.1 p)

-- the coins that these outpoints name are taken out, each once
unfoldable pub take_out : WatchedMap → List OutPoint → Taking
take_out coins spends = fold take_one ([], coins) spends

-- a coin is put in
abbrev pub put_one : WatchedMap → OutPoint × ℕ → WatchedMap
put_one coins coin = insert coins coin.0 coin.1

-- the coins after a transaction that names these outpoints and makes these coins
unfoldable pub watched_after : WatchedMap → List OutPoint → List (OutPoint × ℕ) → WatchedMap
watched_after coins spends made = fold put_one (take_out coins spends).1 made

-- whether it takes a coin out or puts one in
unfoldable pub touches : WatchedMap → List OutPoint → List (OutPoint × ℕ) → Bool
touches coins spends made = not (length (take_out coins spends).0 == 0) || not (length made == 0)

-- what the history says of it
unfoldable pub entry_of : ℕ → List ℕ → WatchedMap → List OutPoint → List (OutPoint × ℕ) → Entry
entry_of height txid coins spends made = record {
  height = height;
  txid = record { 0 = txid };
  received = sum_by (λ coin. coin.1) made;
  spent = sum (take_out coins spends).0;
  balance = total (watched_after coins spends made);
}

-- the entries so far, and the watched coins as they stand
pub record Scanned : Type 0 where
  pub entries : List Entry
  pub coins : WatchedMap

-- nothing is scanned yet: no entries, no coins
abbrev pub unscanned : Scanned
unscanned = record { entries = []; coins = empty }

-- a transaction with this hash that names these outpoints and makes these coins
unfoldable pub after_change : ℕ → Scanned → List ℕ → List OutPoint → List (OutPoint × ℕ) → Scanned
after_change height s txid spends made = record {
  entries = s.entries ++ (if touches s.coins spends made then entry_of height txid s.coins spends made ∷ [] else []);
  coins = watched_after s.coins spends made;
}

-- the coins that a transaction makes: its outputs to watched scripts, the first of these outputs being the one of this number
abbrev pub made_from : ℕ → List ℕ → List (List ℕ) → List Output → List (OutPoint × ℕ)
made_from i txid watch [] = []
made_from i txid watch (o ∷ os) =
    (if is_watched watch o.script then (outpoint txid i, o.value) ∷ [] else []) ++ made_from (suc i) txid watch os

-- one transaction more
abbrev pub after_tx : List (List ℕ) → ℕ → Scanned → Tx → Scanned
after_tx watch height s t = after_change height s (txid_of t) (spends_of t) (made_from 0 (txid_of t) watch t.outputs)

-- blocks more, the first of them at this height
abbrev pub scan_from : ℕ → List (List ℕ) → Scanned → List Block → Scanned
scan_from height watch s [] = s
scan_from height watch s (b ∷ bs) = scan_from (suc height) watch (fold (after_tx watch height) s b.txs) bs

-- the entries of the blocks above genesis, the first of them at height 1
abbrev pub scan_of : List Block → List (List ℕ) → List Entry
scan_of blocks watch = (scan_from 1 watch unscanned blocks).entries

-- the watched coins after them
abbrev pub watched_coins : List Block → List (List ℕ) → WatchedMap
watched_coins blocks watch = (scan_from 1 watch unscanned blocks).coins

-- the balance after the last entry, or nothing
abbrev pub balance_of : List Entry → ℕ
balance_of [] = zero
balance_of (e ∷ []) = e.balance
balance_of (e ∷ f ∷ es) = balance_of (f ∷ es)
