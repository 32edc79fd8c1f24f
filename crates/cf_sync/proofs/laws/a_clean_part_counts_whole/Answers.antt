use Rattle.cf_sync.proofs.Counted.{same_use, said_counts}
use Rattle.cf_sync.proofs.laws.a_clean_part_counts_whole.Goals as goal

pub returns-clause-all : goal.returns-clause-all
returns-clause-all c = same_use

pub returns-clause-one : goal.returns-clause-one
returns-clause-one c = said_counts
