use Rattle.cf_tasks.proofs.Moves.{accounts}
use Rattle.cf_tasks.proofs.ends.Queue.account.Goals as goal

pub learn_as-requires-clause-rule : goal.learn_as-requires-clause-rule
learn_as-requires-clause-rule g c = accounts _ _ c.args.self.now.gets
