use Rattle.cf_tasks.proofs.Moves.{begins}
use Rattle.cf_tasks.proofs.ends.Queue.new.Goals as goal

pub bounded_with-requires-clause-rule : goal.bounded_with-requires-clause-rule
bounded_with-requires-clause-rule g c = begins
