use Rattle.std.proofs.Common.{◌≡◌}
use Rattle.cf_make.specs.Streamed.{AreRecordsTo}
use Rattle.cf_make.proofs.streaming.made_records.Given as goal

abbrev pub invariant-loop : goal.invariant-loop
invariant-loop l = record {
  so_far : AreRecordsTo l.witness l.seed l.counter l.tip l.out.items;
  height : l.height ≡ l.counter;
}
