use Rattle.std.proofs.Common.{◌≡◌, ◌+◌, ◌-◌, ◌*◌, ◌≤◌, length, false, None, Ok}
use Rattle.std.specs.Prelude.{IfSome}
use Rattle.cf_frame.specs.Reading.{front_of}
use Rattle.cf_server.specs.Taking.{Midway}
use Rattle.cf_server.specs.Turns.{AnswersFirst, owed_for}
use Rattle.cf_server.proofs.serve.serve_one.Given as goal

abbrev pub invariant-loop-session : goal.invariant-loop-session
invariant-loop-session g l = record {
  midway : IfSome (g.C.Source.left l.fn.conn) (λ bytes. Midway l.index (record { time = l.fn.moment; nonce = l.nonce; seen = false }) bytes (g.C.Source.left l.conn) l.session.left l.session.framer l.session.served (g.C.Sink.written l.fn.conn) (g.C.Sink.written l.conn));
  turns : IfSome (g.C.Source.left l.fn.conn) (λ bytes. AnswersFirst g.C.Source.left g.C.Sink.written (owed_for l.fn.moment l.nonce l.index) bytes (g.C.Sink.written l.fn.conn) (g.C.Source.left l.conn));
  waiting : front_of l.session.framer ≡ Ok None;
  room : 1 ≤ l.session.left;
  write_count : g.C.Sink.faults l.conn ≡ g.C.Sink.faults l.fn.conn;
  read_count : g.C.Source.faults l.conn ≡ g.C.Source.faults l.fn.conn;
}

abbrev pub decreases-loop-session : goal.decreases-loop-session
decreases-loop-session g l = 4000024 * l.session.left + (4000024 - length l.session.framer)
