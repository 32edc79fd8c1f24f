use Rattle.cf_sync.proofs.Settles.{never_deserves, honest_never_closed, honest_connected}
use Rattle.cf_sync.proofs.laws.an_honest_peer_is_never_closed.Goals as goal

pub returns-clause-deserves : goal.returns-clause-deserves
returns-clause-deserves c = never_deserves

pub returns-clause-closed : goal.returns-clause-closed
returns-clause-closed c = honest_never_closed

pub returns-clause-connected : goal.returns-clause-connected
returns-clause-connected c = honest_connected
