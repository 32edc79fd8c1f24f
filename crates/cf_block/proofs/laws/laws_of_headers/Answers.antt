use Rattle.cf_block.proofs.HeaderLaws.{header_again, header_one}
use Rattle.cf_block.proofs.HeaderTaken.{header_read}
use Rattle.cf_block.proofs.laws.laws_of_headers.Goals as goal

pub returns-clause-again : goal.returns-clause-again
returns-clause-again c = header_again

pub returns-clause-one : goal.returns-clause-one
returns-clause-one c = header_one

pub returns-clause-taken : goal.returns-clause-taken
returns-clause-taken c = header_read
