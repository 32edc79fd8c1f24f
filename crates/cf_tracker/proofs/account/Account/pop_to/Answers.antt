use Rattle.std.proofs.Common.{◌<◌, length, arith}
use Rattle.cf_tracker.specs.Account.{written_in}
use Rattle.cf_tracker.proofs.Writings.{popped_all, popped_one}
use Rattle.cf_tracker.proofs.account.Account.pop_to.Goals as goal

pub loop-preserved : goal.loop-preserved
loop-preserved c =
    let lt : c.args.count < length (written_in c.loop.self) = omega (arith, c.loop.invariant.few, c.loop-test.true) in
    let w = popped_one c.args.count (written_in c.args.self.now) (written_in c.loop.self) (written_in c.pop.new.self) c.loop.invariant.kept lt c.pop.ensures.written in
    record { kept = w.0; few = omega (arith, w.1, c.loop.invariant.few); book = λ table is. c.pop.ensures.book table (c.loop.invariant.book table is) }

pub returns-clause-written : goal.returns-clause-written
returns-clause-written c =
    popped_all c.args.count (written_in c.args.self.now) (written_in c.loop.self) c.loop.invariant.kept (omega (arith, c.loop.invariant.few, c.loop-test.false))
