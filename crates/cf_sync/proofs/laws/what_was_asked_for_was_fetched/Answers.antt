use Rattle.cf_sync.proofs.Remembers.{asked_fetched}
use Rattle.cf_sync.proofs.laws.what_was_asked_for_was_fetched.Goals as goal

pub returns : goal.returns
returns c = asked_fetched
