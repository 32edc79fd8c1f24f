use Rattle.cf_demo.proofs.Three.{run_three, run_tells}
use Rattle.cf_demo.proofs.laws.three_played_peers_tell_the_honest_chain.Goals as goal

pub returns-clause-other : goal.returns-clause-other
returns-clause-other c = run_three

pub returns-clause-history : goal.returns-clause-history
returns-clause-history c = run_tells
