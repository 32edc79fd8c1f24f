use Rattle.cf_tasks.proofs.Moves.{gets}
use Rattle.cf_tasks.proofs.passing.AnyPassing.take.Goals as goal

pub recv_as-requires-clause-rule : goal.recv_as-requires-clause-rule
recv_as-requires-clause-rule g c = (gets _ _ c.requires.gets, λ items views h at. tt)
