use Rattle.std.proofs.Common.{◌∙◌, arith}
use Rattle.std.proofs.lemmas.Grind.{common_steps}
use Rattle.cf_bytes.proofs.Sent.{sends_more, send_fails, all_sent}
use Rattle.cf_conn.proofs.sending.send_all.Goals as goal

pub returns-in_err-sent-clause-exact : goal.returns-in_err-sent-clause-exact
returns-in_err-sent-clause-exact g c =
    send_fails g.C.Sink.writes c.args.bytes.now c.args.conn.now c.loop-sent.sent c.loop-sent.conn c.send.result c.in_err-sent.field-0.0 c.send.new.self c.from_residual.result
    c.from_residual.ensures.0 c.loop-sent-test.true c.in_err-sent.was c.send.ensures.exact c.loop-sent.invariant.sent.exact

pub loop-sent-preserved : goal.loop-sent-preserved
loop-sent-preserved g c =
    let took = c.in_ok-sent.ensures in
    record {
      sent = sends_more g.C.Sink.writes g.C.Sink.written g.C.Sink.faults c.args.bytes.now c.args.conn.now c.loop-sent.sent c.loop-sent.conn c.send.result c.in_ok-sent.field-0 c.send.new.self
          c.loop-sent-test.true c.in_ok-sent.was took.some.0 took.ok took.kept c.send.ensures.exact c.loop-sent.invariant.sent;
      left = took.left ∙ c.loop-sent.invariant.left;
      ended = took.ended ∙ c.loop-sent.invariant.ended;
      read_faults = took.read_faults ∙ c.loop-sent.invariant.read_faults;
    }

pub returns-clause-exact : goal.returns-clause-exact
returns-clause-exact g c =
    all_sent g.C.Sink.writes c.args.bytes.now c.args.conn.now c.loop-sent.sent c.loop-sent.conn (grind (arith, common_steps)) c.loop-sent.invariant.sent.exact
