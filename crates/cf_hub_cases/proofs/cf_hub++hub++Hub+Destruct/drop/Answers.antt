use Rattle.cf_hub.proofs.Holds.{all_hold}
use Rattle.cf_hub_cases.proofs.cf_hub++hub++Hub+Destruct.drop.Goals as goal

-- the ghost fields of a hub that is let go are those that it has
pub invariant_of-drop : goal.invariant_of-drop
invariant_of-drop g c = all_hold c.args.arg1
