use Rattle.cf_coins.proofs.Steps.{spend_fault, spend_is}
use Rattle.cf_coins.proofs.spend.spend_tx.Goals as goal

pub returns-in-Err-clause-exact : goal.returns-in-Err-clause-exact
returns-in-Err-clause-exact c = spend_fault c.args.coins.now c.args.tx.now c.in-Err.e c.in-Err.ensures.exact

pub returns-in-Ok-clause-exact : goal.returns-in-Ok-clause-exact
returns-in-Ok-clause-exact c = rw (spend_is c.args.coins.now c.spend_inputs.new.coins c.args.tx.now c.in-Ok.ensures.exact, ← c.requires.hash, ← c.as_slice.ensures) c.put_outputs.ensures
