use Rattle.std.proofs.Common.{◌+◌, [], drop, sym, ◌∙◌, ap, arith}
use Rattle.cf_chain.specs.Coins.{CoinMap}
use Rattle.cf_coins.specs.Touching.{places, with_named}
use Rattle.cf_coins.proofs.Touching.{places_named}
use Rattle.cf_coins.proofs.check.copy_places.Goals as goal

pub loop-place-preserved : goal.loop-place-preserved
loop-place-preserved c =
    let n = c.loop-place.place in
    record {
      rest = c.loop-place.invariant.rest
          ∙ places_named c.args.coins.now c.loop-place.few c.args.txid.0 c.args.outputs.now n (record { value = 0; script = [] }) (omega arith)
          ∙ ap (λ (m : CoinMap). with_named c.args.coins.now m (places c.args.txid.0 (n + 1) (drop (n + 1) c.args.outputs.now))) (sym (c.in_ok-copy_coin.ensures {u = tt}));
    }
