use Rattle.cf_coins.proofs.Touching.{named_by_both}
use Rattle.cf_coins.proofs.check.copy_names.Goals as goal

pub returns : goal.returns
returns c =
    named_by_both c.args.coins.now c.args.few.now c.copy_spends.new.few c.copy_places.new.few c.args.tx.now c.args.txid.0 c.as_slice.result.now c.requires.hash
    c.as_slice.ensures (c.in_ok-copy_spends.ensures {u = tt}) (c.in_ok-copy_places.ensures {u = tt})
