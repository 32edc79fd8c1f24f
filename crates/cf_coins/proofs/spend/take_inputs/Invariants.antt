use Rattle.std.proofs.Common.{◌≡◌, drop, ◌++◌}
use Rattle.cf_chain.specs.Coins.{spent_outputs}
use Rattle.cf_coins.specs.Spending.{take_all, prevs, scripts_of}
use Rattle.cf_coins.proofs.spend.take_inputs.Given as goal

abbrev pub invariant-loop-input : goal.invariant-loop-input
invariant-loop-input l = record {
  exact : take_all l.fn.coins (prevs l.inputs) ≡ take_all l.coins (prevs (drop l.input-index l.inputs));
  taken : l.spent.items ++ scripts_of (spent_outputs l.coins (prevs (drop l.input-index l.inputs))) ≡ l.fn.spent.items ++ scripts_of (spent_outputs l.fn.coins (prevs l.inputs));
}
