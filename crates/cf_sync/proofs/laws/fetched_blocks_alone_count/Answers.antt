use Rattle.cf_sync.proofs.SameFetched.{same_fetched, same_wanted}
use Rattle.cf_sync.proofs.laws.fetched_blocks_alone_count.Goals as goal

pub returns-clause-fetched : goal.returns-clause-fetched
returns-clause-fetched c = same_fetched

pub returns-clause-wanted : goal.returns-clause-wanted
returns-clause-wanted c = same_wanted
