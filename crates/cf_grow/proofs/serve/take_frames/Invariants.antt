use Rattle.std.proofs.Common.{◌≡◌, ◌≤◌}
use Rattle.cf_grow.specs.Growing.{HasMomentOf, begun_in, mark_of}
use Rattle.cf_grow.specs.Serving.{Moves}
use Rattle.cf_grow.proofs.serve.take_frames.Given as goal

abbrev pub invariant-loop-frame : goal.invariant-loop-frame
invariant-loop-frame g l = record {
  moves : Moves (begun_in l.fn.session.mark) l.fn.session.mark.served.nonce l.fn.session.left l.session.left l.fn.session.framer l.session.framer
      (mark_of l.fn.session.mark) (mark_of l.session.mark) (g.C.Sink.written l.fn.conn) (g.C.Sink.written l.conn);
  moment : HasMomentOf l.fn.session.mark l.session.mark;
  room : 1 ≤ l.session.left;
  fewer : l.session.left ≤ l.fn.session.left;
  same : l.session.left ≡ l.fn.session.left → l.session.framer ≡ l.fn.session.framer;
  count : g.C.Sink.faults l.conn ≡ g.C.Sink.faults l.fn.conn;
  left : g.C.Source.left l.conn ≡ g.C.Source.left l.fn.conn;
  ended : g.C.Source.ended l.conn ≡ g.C.Source.ended l.fn.conn;
  read_faults : g.C.Source.faults l.conn ≡ g.C.Source.faults l.fn.conn;
}

abbrev pub decreases-loop-frame : goal.decreases-loop-frame
decreases-loop-frame g l = l.session.left
