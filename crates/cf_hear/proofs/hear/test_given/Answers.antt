use Rattle.std.proofs.Common.{arith}
use Rattle.cf_tracker.specs.Tracker.{paid_of, tests_of}
use Rattle.cf_hear.proofs.Trying.{tested_more, tested_one}
use Rattle.cf_hear.proofs.hear.test_given.Goals as goal

pub returns-then-jobs-ne1-clause-told : goal.returns-then-jobs-ne1-clause-told
returns-then-jobs-ne1-clause-told g c =
    tested_more (paid_of c.args.tracker.now) c.args.jobs.now (tests_of c.args.tracker.now) (λ e. omega (arith, e))

pub returns-clause-told : goal.returns-clause-told
returns-clause-told g c =
    tested_one (paid_of c.args.tracker.now) c.args.jobs.now c.index-jobs-0.result (tests_of c.args.tracker.now) (tests_of c.test.new.self)
    (omega arith) c.index-jobs-0.is c.in_ok-test.ensures.ok
