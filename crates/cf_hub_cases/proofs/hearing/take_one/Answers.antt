use Rattle.cf_hub_cases.proofs.Comes.{keeps_more}
use Rattle.cf_hub_cases.proofs.hearing.take_one.Goals as goal

pub returns-clause-keeps : goal.returns-clause-keeps
returns-clause-keeps g c = keeps_more _ _ _ _ _ c.in-Ok.ensures.took c.requires c.in_ok-put.ensures.bytes c.in_ok-put.ensures.gone c.in_ok-put.ensures.ticks
