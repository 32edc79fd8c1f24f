use Rattle.cf_coins.proofs.Steps.{spent_all}
use Rattle.cf_coins.proofs.spend.spend_block.Goals as goal

pub returns-in-Ok-clause-after : goal.returns-in-Ok-clause-after
returns-in-Ok-clause-after c = (spent_all c.args.coins.now c.spend_each.new.coins c.args.block.now.txs (rw c.as_slice-2.ensures at c.in-Ok.ensures.exact)).1
