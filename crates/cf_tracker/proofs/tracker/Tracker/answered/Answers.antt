use Rattle.std.proofs.Common.{arith}
use Rattle.cf_seek.proofs.Marked.{answered_marked, unsought_all}
use Rattle.cf_tracker.proofs.tracker.Tracker.answered.Goals as goal

pub invariant_of-self : goal.invariant_of-self
invariant_of-self g c =
    let now = c.args.self.now in
    record { first = now.first; trials = now.trials; book = now.book; stands = now.stands; marks = grind (arith, unsought_all) }

pub invariant_of-self-else-left : goal.invariant_of-self-else-left
invariant_of-self-else-left g c =
    let now = c.args.self.now in
    record { first = now.first; trials = now.trials; book = now.book; stands = now.stands; marks = grind (arith, answered_marked) }
