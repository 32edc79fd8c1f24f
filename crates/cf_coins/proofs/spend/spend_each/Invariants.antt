use Rattle.std.proofs.Common.{◌≡◌, drop, ◌++◌}
use Rattle.cf_chain.specs.Coins.{spent_by}
use Rattle.cf_coins.specs.Spending.{spend_all, scripts_of}
use Rattle.cf_coins.proofs.spend.spend_each.Given as goal

abbrev pub invariant-loop-i : goal.invariant-loop-i
invariant-loop-i l = record {
  exact : spend_all l.fn.coins l.txs ≡ spend_all l.coins (drop l.i l.txs);
  taken : l.spent.items ++ scripts_of (spent_by l.coins (drop l.i l.txs)) ≡ l.fn.spent.items ++ scripts_of (spent_by l.fn.coins l.txs);
}
