use Rattle.std.proofs.Common.{[], Result, refl}
use Rattle.cf_msg.specs.Reading.{message_of as message_in}
use Rattle.cf_server.specs.declared.outcome.ServeEnd.{ServeEnd}
use Rattle.cf_server.specs.Taking.{AnswersFrame, frame_text}
use Rattle.cf_server.proofs.Texts.{beginning_none}
use Rattle.cf_server.proofs.Steps.{by_err, frame_sent}
use Rattle.cf_server.proofs.serve.answer_frame.Goals as goal

pub returns-in_err-replies-clause-answers : goal.returns-in_err-replies-clause-answers
returns-in_err-replies-clause-answers g c =
    let read = message_in c.args.frame in
    let before = g.C.Sink.written c.args.conn.now in
    by_err (λ (r : Result (Unit {0}) ServeEnd). AnswersFrame r c.args.index.now read c.args.served.now c.plan_replies.new.served before before) _ _ c.from_residual.ensures.1
    (beginning_none before (frame_text c.args.served.now c.args.index.now read))

pub returns-clause-answers : goal.returns-clause-answers
returns-clause-answers g c =
    let before = g.C.Sink.written c.args.conn.now in
    let after = g.C.Sink.written c.send_replies.new.conn in
    frame_sent c.args.index.now c.in-Ok.msg (message_in c.args.frame) c.args.served.now c.plan_replies.new.served [] c.in_ok-replies.replies before after c.send_replies.result
    c.in-Ok.ensures c.in_ok-replies.ensures.seen refl c.in_ok-replies.ensures.adds c.send_replies.ensures.sends
