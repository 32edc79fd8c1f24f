use Rattle.cf_tasks.proofs.Moves.{merges}
use Rattle.cf_tasks.proofs.ends.Queue.take.Goals as goal

pub absorb-requires-clause-rule : goal.absorb-requires-clause-rule
absorb-requires-clause-rule g c = merges _ _ _ _ c.args.self.now.gets c.args.sender.sends
