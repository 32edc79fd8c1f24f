use Rattle.std.proofs.Common.{◌≡◌, drop}
use Rattle.cf_coins.specs.Touching.{touched_outpoints, with_named}
use Rattle.cf_coins.proofs.check.copy_touched.Given as goal

abbrev pub invariant-loop-i : goal.invariant-loop-i
invariant-loop-i l = record {
  rest : with_named l.coins l.fn.few (touched_outpoints l.txs) ≡ with_named l.coins l.few (touched_outpoints (drop l.i l.txs));
}
