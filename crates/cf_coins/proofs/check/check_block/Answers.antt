use Rattle.std.proofs.Common.{List, ◌∙◌, ap}
use Rattle.std.specs.FinMap.{empty}
use Rattle.cf_chain.specs.Coins.{CoinMap}
use Rattle.cf_block.specs.declared.tx.Tx.{Tx}
use Rattle.cf_coins.specs.Touching.{touched_outpoints, with_named}
use Rattle.cf_coins.proofs.Touching.{judged_good, judged_bad}
use Rattle.cf_coins.proofs.check.check_block.Goals as goal

pub returns-in-Ok : goal.returns-in-Ok
returns-in-Ok c =
    judged_good c.args.coins.now c.copy_touched.new.few c.spend_block.new.coins c.args.block.now.txs
    (c.in_ok-copy_touched.ensures {u = tt} ∙ ap (λ (m : CoinMap). with_named c.args.coins.now m (touched_outpoints c.as_slice.result.now)) c.new-few.ensures
    ∙ ap (λ (ts : List Tx). with_named c.args.coins.now empty (touched_outpoints ts)) c.as_slice.ensures)
    c.in-Ok.ensures.exact

pub returns : goal.returns
returns c =
    judged_bad c.args.coins.now c.copy_touched.new.few c.args.block.now.txs c.in-Err.e
    (c.in_ok-copy_touched.ensures {u = tt} ∙ ap (λ (m : CoinMap). with_named c.args.coins.now m (touched_outpoints c.as_slice.result.now)) c.new-few.ensures
    ∙ ap (λ (ts : List Tx). with_named c.args.coins.now empty (touched_outpoints ts)) c.as_slice.ensures)
    c.in-Err.ensures.exact
