use Rattle.cf_tasks.proofs.Moves.{forks}
use Rattle.cf_tasks.proofs.ends.Queue.sender.Goals as goal

pub another-seat-requires-clause-rule : goal.another-seat-requires-clause-rule
another-seat-requires-clause-rule g c = forks _ _ c.args.self.now.gets
