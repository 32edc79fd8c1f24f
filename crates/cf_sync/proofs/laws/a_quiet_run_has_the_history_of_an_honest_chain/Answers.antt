use Rattle.cf_sync.proofs.Settles.{history_is}
use Rattle.cf_sync.proofs.laws.a_quiet_run_has_the_history_of_an_honest_chain.Goals as goal

pub returns : goal.returns
returns c = history_is
