use Rattle.cf_sync.proofs.Bodies.{one_body}
use Rattle.cf_sync.proofs.laws.what_is_fetched_has_one_body.Goals as goal

pub returns : goal.returns
returns c = one_body
