use Rattle.cf_hub.proofs.Holds.{all_hold}
use Rattle.cf_hub.proofs.hub.Hub.misses.Goals as goal

pub invariant_of-self : goal.invariant_of-self
invariant_of-self g c = all_hold c.args.self.now
