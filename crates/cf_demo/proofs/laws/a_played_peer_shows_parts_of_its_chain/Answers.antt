use Rattle.cf_demo.proofs.Shown.{run_shows}
use Rattle.cf_demo.proofs.laws.a_played_peer_shows_parts_of_its_chain.Goals as goal

pub returns : goal.returns
returns c = run_shows
