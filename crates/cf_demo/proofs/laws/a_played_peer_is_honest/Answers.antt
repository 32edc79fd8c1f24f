use Rattle.cf_demo.proofs.Played.{run_honest}
use Rattle.cf_demo.proofs.laws.a_played_peer_is_honest.Goals as goal

pub returns : goal.returns
returns c = run_honest
