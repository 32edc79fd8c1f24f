use Rattle.cf_holds.proofs.KeptTests.{tested_through, trial_by}
use Rattle.cf_holds.proofs.laws.what_is_kept_tells_what_is_tested.Goals as goal

pub returns-clause-wanted : goal.returns-clause-wanted
returns-clause-wanted c = trial_by

pub returns-clause-through : goal.returns-clause-through
returns-clause-through c = tested_through
