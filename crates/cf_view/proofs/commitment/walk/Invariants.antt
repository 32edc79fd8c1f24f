use Rattle.std.proofs.Common.{length}
use Rattle.cf_view.specs.Walked.{IsWalked}
use Rattle.cf_view.proofs.commitment.walk.Given as goal

abbrev pub invariant-loop-tx : goal.invariant-loop-tx
invariant-loop-tx l = IsWalked l.b.txs l.txs l.level.items l.is_long

abbrev pub decreases-loop-tx : goal.decreases-loop-tx
decreases-loop-tx l = length l.txs
