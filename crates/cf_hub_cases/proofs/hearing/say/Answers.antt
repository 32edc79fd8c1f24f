use Rattle.cf_hub_cases.proofs.Comes.{keeps_sent, text_more}
use Rattle.cf_hub_cases.proofs.hearing.say.Goals as goal

pub returns-in-Ok-clause-keeps : goal.returns-in-Ok-clause-keeps
returns-in-Ok-clause-keeps g c = λ came k. keeps_sent _ _ _ _ came c.in-Ok.ensures.sent k

pub returns-in-Ok-clause-text : goal.returns-in-Ok-clause-text
returns-in-Ok-clause-text g c = text_more _ _ _ c.in-Ok.ensures.writes c.requires
