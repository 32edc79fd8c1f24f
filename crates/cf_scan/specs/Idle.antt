-- statement: blocks that a history can do without.
use Rattle.std.specs.Prelude.{◌≡◌, ℕ, suc, ◌<◌, Bool, false, List, length, slice_index_or, take, None}
use Rattle.std.specs.List.{AllByRecursion}
use Rattle.std.specs.FinMap.{get}
use Rattle.cf_block.specs.declared.tx.Tx.{Tx}
use Rattle.cf_block.specs.declared.tx.Block.{Block}
use Rattle.cf_block.specs.Outpoint.{spends_of}
use Rattle.cf_scan.specs.Coins.{WatchedMap}
use Rattle.cf_scan.specs.Watching.{is_watched}
use Rattle.cf_scan.specs.Scan.{watched_coins}

-- it pays no watched script and spends none of the watched coins
pub record IsIdleTx (coins : WatchedMap) (watch : List (List ℕ)) (t : Tx) : Type 0 where
  pub pays : AllByRecursion (λ o. is_watched watch o.script ≡ false) t.outputs
  pub spends : AllByRecursion (λ p. get coins p ≡ None) (spends_of t)

-- no transaction of the block pays a watched script or spends a watched coin
abbrev pub IsIdle : WatchedMap → List (List ℕ) → Block → Type 0
IsIdle coins watch b = AllByRecursion (IsIdleTx coins watch) b.txs

-- each block whose height isn't kept is idle, by the watched coins that stand when it comes
abbrev pub LeavesOutIdle : (ℕ → Bool) → List Block → List (List ℕ) → Type 0
LeavesOutIdle keep blocks watch =
    (k : ℕ) (d : Block) → k < length blocks → keep (suc k) ≡ false → IsIdle (watched_coins (take k blocks) watch) watch (slice_index_or blocks k d)
