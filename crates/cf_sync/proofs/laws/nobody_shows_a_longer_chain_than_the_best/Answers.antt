use Rattle.cf_sync.proofs.Settles.{none_longer}
use Rattle.cf_sync.proofs.laws.nobody_shows_a_longer_chain_than_the_best.Goals as goal

pub returns : goal.returns
returns c = none_longer
