use Rattle.std.proofs.Common.{◌≡◌, ◌≤◌, ◌-◌, length, take}
use Rattle.cf_bytes.specs.Outside.{with_more}
use Rattle.cf_hub.proofs.writers.write_all.Given as goal

-- the first `sent` bytes were written, and nothing has failed
abbrev pub invariant-loop-sent : goal.invariant-loop-sent
invariant-loop-sent g l = record {
  within : l.sent ≤ length l.bytes;
  written : g.W.Sink.written l.writer ≡ with_more (g.W.Sink.written l.fn.writer) (take l.sent l.bytes);
  shut : g.W.Writer.was_shut l.writer ≡ g.W.Writer.was_shut l.fn.writer;
  kept : g.W.Sink.faults l.writer ≡ g.W.Sink.faults l.fn.writer;
}

abbrev pub decreases-loop-sent : goal.decreases-loop-sent
decreases-loop-sent g l = length l.bytes - l.sent
