use Rattle.std.proofs.Common.{◌≡◌, ◌+◌, length, take}
use Rattle.cf_tracker.specs.Account.{IsAccountOf, written_in}
use Rattle.cf_tables.specs.Known.{ExtractTable}
use Rattle.cf_tracker.proofs.account.Account.pop_to.Given as goal

abbrev pub invariant-loop : goal.invariant-loop
invariant-loop l = record {
  kept : take l.count (written_in l.self) ≡ take l.count (written_in l.fn.self);
  few : length (written_in l.self) + l.counter ≡ l.count + l.end;
  book : (table : ExtractTable) → IsAccountOf table l.fn.self → IsAccountOf table l.self;
}
