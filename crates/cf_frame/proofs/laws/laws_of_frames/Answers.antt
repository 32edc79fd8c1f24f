use Rattle.cf_frame.proofs.Again.{again}
use Rattle.cf_frame.proofs.Relations.{bad_of, begins_of, front_bad, no_prefix, waits_few}
use Rattle.cf_frame.proofs.Stays.{stays}
use Rattle.cf_frame.proofs.laws.laws_of_frames.Goals as goal

pub returns-clause-again : goal.returns-clause-again
returns-clause-again c = again

pub returns-clause-only : goal.returns-clause-only
returns-clause-only c = λ bytes f more fits e. (begins_of bytes f more fits e).0

pub returns-clause-bad : goal.returns-clause-bad
returns-clause-bad c = λ bytes fault fits. (bad_of bytes fault fits, front_bad bytes fault)

pub returns-clause-stays : goal.returns-clause-stays
returns-clause-stays c = stays

pub returns-clause-alone : goal.returns-clause-alone
returns-clause-alone c = no_prefix

pub returns-clause-few : goal.returns-clause-few
returns-clause-few c = waits_few
