use Rattle.std.proofs.Common.{◌∙◌, ap, arith}
use Rattle.cf_chain.specs.Coins.{after_block}
use Rattle.cf_index.proofs.Adding.{coins_next, coins_all}
use Rattle.cf_index.proofs.index.coins_of.Goals as goal

pub loop-block-init : goal.loop-block-init
loop-block-init c = record { laid = c.new-coins.ensures }

pub loop-block-preserved : goal.loop-block-preserved
loop-block-preserved c =
    let item = c.block-item.result in
    record {
      laid = coins_next c.args.blocks.now c.loop-block.block-index item c.loop-block.coins c.spend_on.new.coins c.loop-block-test.true c.block-item.is
          (c.in_ok-spend_on.ensures {u = tt} ∙ ap (after_block c.loop-block.coins) c.block.ensures) c.loop-block.invariant.laid;
    }

pub returns : goal.returns
returns c = coins_all c.args.blocks.now c.loop-block.block-index c.loop-block.coins (omega arith) c.loop-block.invariant.laid
