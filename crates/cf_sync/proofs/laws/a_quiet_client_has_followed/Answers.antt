use Rattle.cf_sync.proofs.Settles.{followed_in}
use Rattle.cf_sync.proofs.laws.a_quiet_client_has_followed.Goals as goal

pub returns : goal.returns
returns c = followed_in
