use Rattle.cf_client.proofs.Holding.{headers_once}
use Rattle.cf_client.proofs.laws.laws_of_holding.Goals as goal

pub returns : goal.returns
returns c = headers_once
