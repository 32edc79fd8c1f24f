use Rattle.std.proofs.Common.{◌≡◌, take}
use Rattle.cf_server.specs.Replies.{messages_of}
use Rattle.cf_server.specs.Serving.{text_of}
use Rattle.cf_server.proofs.Steps.{Waiting}
use Rattle.cf_server.proofs.serve.send_replies.Given as goal

abbrev pub invariant-loop-place : goal.invariant-loop-place
invariant-loop-place g l = record {
  written : Waiting (g.C.Sink.written l.fn.conn) (g.C.Sink.written l.conn) l.waiting.items (text_of (messages_of l.served l.index (take l.place l.replies)));
  count : g.C.Sink.faults l.conn ≡ g.C.Sink.faults l.fn.conn;
  left : g.C.Source.left l.conn ≡ g.C.Source.left l.fn.conn;
  ended : g.C.Source.ended l.conn ≡ g.C.Source.ended l.fn.conn;
  read_faults : g.C.Source.faults l.conn ≡ g.C.Source.faults l.fn.conn;
}
