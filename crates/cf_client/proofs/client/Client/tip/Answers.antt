use Rattle.cf_client.specs.Stands.{seen_by}
use Rattle.cf_client.proofs.Reporting.{tip_is}
use Rattle.cf_client.proofs.client.Client.tip.Goals as goal

pub returns : goal.returns
returns g c = λ log reflects.
    tip_is c.args.self.now.places.items log (seen_by c.args.self.now) c.tip.ensures.0 c.tip.result.0 c.tip.result.1 reflects.places reflects.tracks c.tip.ensures.1 c.tip.ensures.2 c.tip.ensures.3
