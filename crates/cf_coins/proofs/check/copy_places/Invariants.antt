use Rattle.std.proofs.Common.{◌≡◌, drop}
use Rattle.cf_coins.specs.Touching.{places, with_named}
use Rattle.cf_coins.proofs.check.copy_places.Given as goal

abbrev pub invariant-loop-place : goal.invariant-loop-place
invariant-loop-place l = record {
  rest : with_named l.coins l.fn.few (places l.txid.0 0 l.outputs) ≡ with_named l.coins l.few (places l.txid.0 l.place (drop l.place l.outputs));
}
