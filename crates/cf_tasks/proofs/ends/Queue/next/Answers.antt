use Rattle.std.proofs.Common.{rules}
use Rattle.cf_tasks.proofs.Moves.{gets}
use Rattle.cf_tasks.proofs.ends.Queue.next.Goals as goal

pub recv_as-requires-clause-rule : goal.recv_as-requires-clause-rule
recv_as-requires-clause-rule g c = (gets _ _ (search rules), λ items views h at. tt)
