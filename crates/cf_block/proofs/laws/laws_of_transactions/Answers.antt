use Rattle.cf_block.proofs.Again.{tx_again, tx_one}
use Rattle.cf_block.proofs.Taken.{tx_read}
use Rattle.cf_block.proofs.laws.laws_of_transactions.Goals as goal

pub returns-clause-again : goal.returns-clause-again
returns-clause-again c = tx_again

pub returns-clause-one : goal.returns-clause-one
returns-clause-one c = tx_one

pub returns-clause-taken : goal.returns-clause-taken
returns-clause-taken c = tx_read
