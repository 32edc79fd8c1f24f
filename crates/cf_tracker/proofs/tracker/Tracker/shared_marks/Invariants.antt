use Rattle.cf_headers.specs.Store.{own_of}
use Rattle.cf_seek.specs.Seeking.{ArePassed, AreSought}
use Rattle.cf_tracker.specs.Tracker.{chains_of, claims_of, opens_of, table_of, verdicts_of}
use Rattle.cf_tracker.proofs.tracker.Tracker.shared_marks.Given as goal

abbrev pub invariant-loop-q : goal.invariant-loop-q
invariant-loop-q g l = record {
  sought : AreSought (table_of l.self) (claims_of l.self) (verdicts_of l.self) (opens_of l.self)
      (own_of (chains_of l.self) l.p) l.heights.0;
  passed : ArePassed (table_of l.self) (claims_of l.self) (verdicts_of l.self) (opens_of l.self)
      (own_of (chains_of l.self) l.p) l.heights.1;
}
