use Rattle.std.proofs.Common.{◌≡◌, ◌+◌, ◌-◌, ◌*◌, ◌≤◌, length, None, Ok}
use Rattle.std.specs.Prelude.{IfSome}
use Rattle.cf_frame.specs.Reading.{front_of}
use Rattle.cf_grow.specs.Growing.{begun_in, mark_of}
use Rattle.cf_grow.specs.Serving.{Midway}
use Rattle.cf_grow.proofs.serve.serve_grown.Given as goal

abbrev pub invariant-loop-session : goal.invariant-loop-session
invariant-loop-session g l = record {
  midway : IfSome (g.C.Source.left l.fn.conn) (λ bytes. Midway (record { time = l.fn.moment; tip = l.fn.first }) l.nonce bytes (g.C.Source.left l.conn) l.session.left l.session.framer
      (mark_of l.session.mark) (g.C.Sink.written l.fn.conn) (g.C.Sink.written l.conn));
  time : begun_in l.session.mark ≡ record { time = l.fn.moment; tip = l.fn.first };
  number : l.session.mark.served.nonce ≡ l.nonce;
  waiting : front_of l.session.framer ≡ Ok None;
  room : 1 ≤ l.session.left;
  write_count : g.C.Sink.faults l.conn ≡ g.C.Sink.faults l.fn.conn;
  read_count : g.C.Source.faults l.conn ≡ g.C.Source.faults l.fn.conn;
}

abbrev pub decreases-loop-session : goal.decreases-loop-session
decreases-loop-session g l = 4000024 * l.session.left + (4000024 - length l.session.framer)
