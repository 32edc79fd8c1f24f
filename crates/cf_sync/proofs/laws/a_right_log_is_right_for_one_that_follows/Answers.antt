use Rattle.cf_sync.proofs.Modes.{rightly_following}
use Rattle.cf_sync.proofs.laws.a_right_log_is_right_for_one_that_follows.Goals as goal

pub returns : goal.returns
returns c = rightly_following
