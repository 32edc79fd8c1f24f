use Rattle.std.proofs.Common.{◌≡◌, ◌≤◌, length}
use Rattle.cf_headers.specs.Store.{own_of}
use Rattle.cf_tracker.specs.Account.{IsAccountOf, written_in}
use Rattle.cf_tables.specs.Extracts.{table_in}
use Rattle.cf_tracker.specs.Written.{IsWrittenTo}
use Rattle.cf_tracker.proofs.write.write_blocks.Given as goal

abbrev pub invariant-loop-below : goal.invariant-loop-below
invariant-loop-below g l = record {
  to : IsWrittenTo (table_in l.extracts) (own_of (g.H.HeaderStore.chain l.store) l.p) (written_in l.account) l.below;
  long : length (written_in l.account) ≡ l.below;
  up : l.from ≤ l.below;
  book : IsAccountOf (table_in l.extracts) l.fn.account → IsAccountOf (table_in l.extracts) l.account;
}
