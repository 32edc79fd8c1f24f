use Rattle.std.proofs.Common.{◌≡◌, drop}
use Rattle.cf_coins.specs.Spending.{put_all}
use Rattle.cf_coins.proofs.spend.put_outputs.Given as goal

abbrev pub invariant-loop-output : goal.invariant-loop-output
invariant-loop-output l = record {
  at : l.index ≡ l.output-index;
  rest : put_all l.txid.0 0 l.fn.coins l.outputs ≡ put_all l.txid.0 l.index l.coins (drop l.output-index l.outputs);
}
