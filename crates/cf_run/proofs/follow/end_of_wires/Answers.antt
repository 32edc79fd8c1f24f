use Rattle.std.proofs.Common.{refl}
use Rattle.cf_run.proofs.follow.end_of_wires.Goals as goal

pub returns-in-Working-clause-end : goal.returns-in-Working-clause-end
returns-in-Working-clause-end g c = λ log reflects. (log, (refl, c.in-Working.ensures.state log reflects))

pub returns-in-Synced-clause-end : goal.returns-in-Synced-clause-end
returns-in-Synced-clause-end g c = λ log reflects. c.in-Synced.ensures.state log reflects

pub returns-in-NoPeers-clause-end : goal.returns-in-NoPeers-clause-end
returns-in-NoPeers-clause-end g c = λ log reflects. c.in-NoPeers.ensures.state log reflects
