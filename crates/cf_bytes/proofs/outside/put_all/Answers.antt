use Rattle.std.proofs.Common.{arith}
use Rattle.std.proofs.lemmas.Grind.{common_steps}
use Rattle.cf_bytes.proofs.Sent.{sends_more, send_fails, all_sent}
use Rattle.cf_bytes.proofs.outside.put_all.Goals as goal

pub returns-in_err-sent-clause-exact : goal.returns-in_err-sent-clause-exact
returns-in_err-sent-clause-exact g c =
    send_fails g.S.Sink.writes c.args.b.now c.args.sink.now c.loop-sent.sent c.loop-sent.sink c.write.result c.in_err-sent.field-0.0 c.write.new.self c.from_residual.result
    c.from_residual.ensures.0 c.loop-sent-test.true c.in_err-sent.was c.write.ensures.exact c.loop-sent.invariant.exact

pub loop-sent-preserved : goal.loop-sent-preserved
loop-sent-preserved g c =
    let took = c.in_ok-sent.ensures in
    sends_more g.S.Sink.writes g.S.Sink.written g.S.Sink.faults c.args.b.now c.args.sink.now c.loop-sent.sent c.loop-sent.sink c.write.result c.in_ok-sent.field-0 c.write.new.self
    c.loop-sent-test.true c.in_ok-sent.was took.some.0 took.ok took.kept c.write.ensures.exact c.loop-sent.invariant

pub returns-clause-exact : goal.returns-clause-exact
returns-clause-exact g c = all_sent g.S.Sink.writes c.args.b.now c.args.sink.now c.loop-sent.sent c.loop-sent.sink (grind (arith, common_steps)) c.loop-sent.invariant.exact
