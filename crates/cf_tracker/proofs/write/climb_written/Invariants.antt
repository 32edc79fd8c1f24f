use Rattle.cf_headers.specs.Store.{own_of}
use Rattle.cf_tracker.specs.Account.{written_in}
use Rattle.cf_tables.specs.Extracts.{table_in}
use Rattle.cf_tracker.specs.Written.{IsWrittenTo}
use Rattle.cf_tracker.proofs.write.climb_written.Given as goal

abbrev pub invariant-loop-height : goal.invariant-loop-height
invariant-loop-height g l = IsWrittenTo (table_in l.extracts) (own_of (g.H.HeaderStore.chain l.store) l.p) (written_in l.account) l.height
