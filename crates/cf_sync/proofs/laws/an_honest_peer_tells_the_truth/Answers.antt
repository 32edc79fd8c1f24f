use Rattle.cf_sync.proofs.Settles.{tells_truth}
use Rattle.cf_sync.proofs.laws.an_honest_peer_tells_the_truth.Goals as goal

pub returns : goal.returns
returns c = tells_truth
