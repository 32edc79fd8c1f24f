use Rattle.cf_hub.proofs.Holds.{all_hold}
use Rattle.cf_hub_cases.proofs.following.followed.Goals as goal

-- the hub of a network that is let go is as it was
pub invariant_of-network-inside : goal.invariant_of-network-inside
invariant_of-network-inside g c = all_hold c.network.inside.hub
