use Rattle.std.proofs.Common.{◌≤◌}
use Rattle.cf_dispute.specs.Of.{tables_of}
use Rattle.cf_headers.specs.Store.{own_of}
use Rattle.cf_tables.specs.Extracts.{table_in}
use Rattle.cf_tables.specs.Judged.{verdicts_in}
use Rattle.cf_tracker.specs.Writing.{AreDone}
use Rattle.cf_tracker.proofs.write.climb_settled.Given as goal

abbrev pub invariant-loop-height : goal.invariant-loop-height
invariant-loop-height g l = record {
  done : AreDone (table_in l.known.extracts.now) (tables_of l.known.claims.now) (verdicts_in l.known.judged.now) (own_of (g.H.HeaderStore.chain l.store) l.p) l.from l.height;
  up : l.from ≤ l.height;
}
