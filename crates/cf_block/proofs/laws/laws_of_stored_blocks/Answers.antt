use Rattle.cf_block.proofs.StoredLaws.{plain_stored, block_stored_again, block_stored_taken, one_stored}
use Rattle.cf_block.proofs.laws.laws_of_stored_blocks.Goals as goal

pub returns-clause-plain : goal.returns-clause-plain
returns-clause-plain c = plain_stored

pub returns-clause-again : goal.returns-clause-again
returns-clause-again c = block_stored_again

pub returns-clause-taken : goal.returns-clause-taken
returns-clause-taken c = block_stored_taken

pub returns-clause-one : goal.returns-clause-one
returns-clause-one c = one_stored
