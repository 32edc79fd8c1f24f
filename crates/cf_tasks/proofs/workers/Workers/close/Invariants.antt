use Rattle.std.proofs.Common.{◌≡◌, vec_len}
use Rattle.cf_tasks.proofs.workers.Workers.close.Given as goal

abbrev pub invariant-loop-giver : goal.invariant-loop-giver
invariant-loop-giver g l = l.self-inside.returned ≡ l.initial.self-inside.returned

abbrev pub decreases-loop-giver : goal.decreases-loop-giver
decreases-loop-giver g l = vec_len l.self-inside.ready
