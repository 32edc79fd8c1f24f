use Rattle.cf_sync.proofs.Settles.{sync_theorem_of}
use Rattle.cf_sync.proofs.laws.the_sync_theorem.Goals as goal

pub returns : goal.returns
returns c = sync_theorem_of
