use Rattle.std.proofs.Common.{◌≡◌, drop}
use Rattle.cf_coins.specs.Spending.{prevs}
use Rattle.cf_coins.specs.Touching.{with_named}
use Rattle.cf_coins.proofs.check.copy_inputs.Given as goal

abbrev pub invariant-loop-input : goal.invariant-loop-input
invariant-loop-input l = record {
  rest : with_named l.coins l.fn.few (prevs l.inputs) ≡ with_named l.coins l.few (prevs (drop l.input-index l.inputs));
}
