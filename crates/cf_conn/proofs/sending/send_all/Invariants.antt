use Rattle.std.proofs.Common.{◌≡◌, ◌-◌, length}
use Rattle.cf_bytes.proofs.Sent.{HasSent}
use Rattle.cf_conn.proofs.sending.send_all.Given as goal

-- nothing was read meanwhile
abbrev pub invariant-loop-sent : goal.invariant-loop-sent
invariant-loop-sent g l = record {
  sent : HasSent g.C.Sink.writes g.C.Sink.written g.C.Sink.faults l.bytes l.fn.conn l.sent l.conn;
  left : g.C.Source.left l.conn ≡ g.C.Source.left l.fn.conn;
  ended : g.C.Source.ended l.conn ≡ g.C.Source.ended l.fn.conn;
  read_faults : g.C.Source.faults l.conn ≡ g.C.Source.faults l.fn.conn;
}

abbrev pub decreases-loop-sent : goal.decreases-loop-sent
decreases-loop-sent g l = length l.bytes - l.sent
