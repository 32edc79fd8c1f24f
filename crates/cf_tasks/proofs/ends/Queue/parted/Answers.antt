use Rattle.cf_tasks.proofs.Moves.{forks}
use Rattle.cf_tasks.proofs.ends.Queue.parted.Goals as goal

pub another-theirs-requires-clause-rule : goal.another-theirs-requires-clause-rule
another-theirs-requires-clause-rule g c = forks _ _ c.args.self.gets
