use denote.Param.Send.{sendable}
use Rattle.cf_tasks.proofs.Crossing.{waited_send}
use Rattle.cf_tasks.proofs.workers.one_more.Goals as goal

pub start-requires-send-J-Out : goal.start-requires-send-J-Out
start-requires-send-J-Out g c κs within = search (sendable, waited_send) depth 20
