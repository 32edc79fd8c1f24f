use Rattle.cf_hub.proofs.Holds.{all_hold}
use Rattle.cf_hub_cases.proofs.hearing.heard.Goals as goal

-- the hub that is let go is as `hear` left it, also where that gave up
pub invariant_of-hub : goal.invariant_of-hub
invariant_of-hub g c = all_hold c.hear.new.hub

pub invariant_of-hub-2 : goal.invariant_of-hub-2
invariant_of-hub-2 g c = all_hold c.hear.new.hub

pub returns-clause-ticks : goal.returns-clause-ticks
returns-clause-ticks g c = c.in_ok-hear.ensures.ticks _ c.in-Ok.ensures.pulse c.new-pulse.ensures
