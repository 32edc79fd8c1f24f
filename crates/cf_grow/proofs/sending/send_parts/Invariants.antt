use Rattle.std.proofs.Common.{◌≡◌, ◌++◌, take}
use Rattle.cf_grow.specs.Held.{texts_in}
use Rattle.cf_server.proofs.Steps.{Waiting}
use Rattle.cf_grow.proofs.sending.send_parts.Given as goal

abbrev pub invariant-loop-place : goal.invariant-loop-place
invariant-loop-place g l = record {
  written : Waiting (g.C.Sink.written l.fn.conn) (g.C.Sink.written l.conn) l.waiting.items (l.fn.parts.told ++ texts_in (take l.place l.fn.parts.rest));
  count : g.C.Sink.faults l.conn ≡ g.C.Sink.faults l.fn.conn;
  left : g.C.Source.left l.conn ≡ g.C.Source.left l.fn.conn;
  ended : g.C.Source.ended l.conn ≡ g.C.Source.ended l.fn.conn;
  read_faults : g.C.Source.faults l.conn ≡ g.C.Source.faults l.fn.conn;
}
