use Rattle.cf_msg.proofs.Table.{again, carried, carries, frame_fits, limits_of, place_within}
use Rattle.cf_msg.proofs.laws.laws_of_messages.Goals as goal

pub returns-clause-spelled : goal.returns-clause-spelled
returns-clause-spelled c = λ f m frame fits. (carried f m frame fits, carries f m)

pub returns-clause-again : goal.returns-clause-again
returns-clause-again c = again

pub returns-clause-frame : goal.returns-clause-frame
returns-clause-frame c = frame_fits

pub returns-clause-place : goal.returns-clause-place
returns-clause-place c = place_within

pub returns-clause-limits : goal.returns-clause-limits
returns-clause-limits c = limits_of
