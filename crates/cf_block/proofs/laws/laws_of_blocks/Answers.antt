use Rattle.cf_block.proofs.Again.{block_again}
use Rattle.cf_block.proofs.Committed.{committed_one, passes, is_good}
use Rattle.cf_block.proofs.Taken.{block_taken}
use Rattle.cf_block.proofs.laws.laws_of_blocks.Goals as goal

pub returns-clause-again : goal.returns-clause-again
returns-clause-again c = block_again

pub returns-clause-one : goal.returns-clause-one
returns-clause-one c = committed_one

pub returns-clause-passes : goal.returns-clause-passes
returns-clause-passes c = passes

pub returns-clause-good : goal.returns-clause-good
returns-clause-good c = is_good

pub returns-clause-taken : goal.returns-clause-taken
returns-clause-taken c = block_taken
