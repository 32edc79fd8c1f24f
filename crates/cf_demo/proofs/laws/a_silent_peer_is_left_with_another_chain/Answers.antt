use Rattle.cf_demo.proofs.Silent.{run_silent}
use Rattle.cf_demo.proofs.laws.a_silent_peer_is_left_with_another_chain.Goals as goal

pub returns : goal.returns
returns c = run_silent
