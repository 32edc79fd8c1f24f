use Rattle.std.proofs.Common.{Result}
use Rattle.cf_grow.specs.declared.ending.Ending.{Ending}
use Rattle.cf_grow.specs.Growing.{begun_in, mark_of}
use Rattle.cf_grow.specs.Held.{text_all}
use Rattle.cf_grow.specs.Serving.{AnswersFrame}
use Rattle.cf_grow.proofs.Stepping.{step_answers, refused_frame, frame_failed, frame_answered}
use Rattle.cf_msg.specs.Reading.{message_of as message_in}
use Rattle.cf_server.proofs.Steps.{by_err}
use Rattle.cf_grow.proofs.serve.answer_frame.Goals as goal

pub returns-in_err-taken-clause-answers : goal.returns-in_err-taken-clause-answers
returns-in_err-taken-clause-answers g c =
    let mark = c.args.mark.now in
    let before = g.C.Sink.written c.args.conn.now in
    by_err (λ (r : Result (Unit {0}) Ending). AnswersFrame r (begun_in mark) mark.served.nonce (message_in c.args.frame) (mark_of mark) (mark_of c.take_locked.new.mark) before before) _ _ c.from_residual.ensures.1
    (refused_frame c.in_err-taken.field-0.0 mark.served.nonce (message_in c.args.frame) c.in-Ok.msg mark (mark_of c.take_locked.new.mark) before
    c.in-Ok.ensures.exact c.in_err-taken.ensures.refused)

pub returns-in_err-send_parts-clause-answers : goal.returns-in_err-send_parts-clause-answers
returns-in_err-send_parts-clause-answers g c =
    let mark = c.args.mark.now in
    let next = c.take_locked.new.mark in
    let parts = c.in_ok-taken.taken.parts in
    let before = g.C.Sink.written c.args.conn.now in
    let after = g.C.Sink.written c.send_parts.new.conn in
    by_err (λ (r : Result (Unit {0}) Ending). AnswersFrame r (begun_in mark) mark.served.nonce (message_in c.args.frame) (mark_of mark) (mark_of next) before after) _ _ c.from_residual-in_err-send_parts.ensures.1
    (frame_failed c.in_err-send_parts.field-0.0 (begun_in mark) mark.served.nonce (message_in c.args.frame) c.in-Ok.msg (mark_of mark) (mark_of next) (text_all parts) before after
    c.in-Ok.ensures.exact (step_answers mark next c.in-Ok.msg c.in_ok-taken.taken c.in_ok-taken.ensures.step) c.in_err-send_parts.ensures.sends)

pub returns-clause-answers : goal.returns-clause-answers
returns-clause-answers g c =
    let mark = c.args.mark.now in
    let next = c.take_locked.new.mark in
    let parts = c.in_ok-taken.taken.parts in
    frame_answered (begun_in mark) mark.served.nonce (message_in c.args.frame) c.in-Ok.msg (mark_of mark) (mark_of next) (text_all parts) (g.C.Sink.written c.args.conn.now) (g.C.Sink.written c.send_parts.new.conn)
    c.in-Ok.ensures.exact (step_answers mark next c.in-Ok.msg c.in_ok-taken.taken c.in_ok-taken.ensures.step) c.in_ok-send_parts.ensures.sends
