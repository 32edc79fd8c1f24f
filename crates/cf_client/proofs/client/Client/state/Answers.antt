use Rattle.cf_client.proofs.Blaming.{asked_out_now, blameless, blames_now}
use Rattle.cf_client.proofs.Innocent.{innocent, answered}
use Rattle.cf_client.proofs.Standing.{state_is}
use Rattle.cf_client.proofs.client.Client.state.Goals as goal

pub returns-clause-state : goal.returns-clause-state
returns-clause-state g c = λ log reflects. rw (c.state_of_places.ensures, c.as_slice.ensures.value) (state_is c.args.self.now.places.items log reflects.places)

pub returns-clause-nobody : goal.returns-clause-nobody
returns-clause-nobody g c = λ log reflects. innocent c.args.self.now log reflects

pub returns-clause-blameless : goal.returns-clause-blameless
returns-clause-blameless g c = λ log reflects right. blameless c.args.self.now log reflects right

pub returns-clause-answered : goal.returns-clause-answered
returns-clause-answered g c = λ log reflects. answered c.args.self.now log reflects

pub returns-clause-blamed : goal.returns-clause-blamed
returns-clause-blamed g c = λ log reflects. blames_now c.args.self.now log reflects

pub returns-clause-asked_out : goal.returns-clause-asked_out
returns-clause-asked_out g c = λ log reflects. asked_out_now c.args.self.now log reflects
