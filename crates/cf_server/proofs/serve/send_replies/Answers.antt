use Rattle.std.proofs.Common.{ℕ, ◌+◌, ◌++◌, List, take, Option, Err, Result, refl, sym, ◌∙◌, ap, subst, arith}
use Rattle.std.proofs.lemmas.List.{take_all}
use Rattle.cf_frame.specs.Frame.{spelling}
use Rattle.cf_msg.specs.Message.{frame_of}
use Rattle.cf_server.specs.declared.outcome.ServeEnd.{ServeEnd}
use Rattle.cf_server.specs.declared.reply.Reply.{Reply}
use Rattle.cf_server.specs.declared.reply.Reply.TheVariants.{OwnVersion}
use Rattle.cf_server.specs.Replies.{IsReplyOf, message_of, messages_of}
use Rattle.cf_server.specs.Serving.{text_of}
use Rattle.cf_server.specs.Taking.{Sends}
use Rattle.cf_server.proofs.Lists.{all-at}
use Rattle.cf_server.proofs.Steps.{by_err, Waiting, waiting_none, waiting_more, waiting_written, waiting_kept, waiting_sent, front_in_part}
use Rattle.cf_server.proofs.serve.send_replies.Goals.{then-len-ge-TOGETHER+in_ok-flush, else-len-ge-TOGETHER}
use Rattle.cf_server.proofs.serve.send_replies.Goals as goal

pub put_reply-requires : goal.put_reply-requires
put_reply-requires g c =
    let Is = IsReplyOf c.args.index.now in
    subst Is (sym (c.at.ensures OwnVersion)) (all-at Is c.args.replies.now c.loop-place.place OwnVersion c.requires tt)

pub loop-place-init : goal.loop-place-init
loop-place-init g c =
    let none = waiting_none (g.C.Sink.written c.args.conn.now) c.new-waiting.result.items c.new-waiting.ensures.items in
    record { written = none; count = refl; left = refl; ended = refl; read_faults = refl }

pub returns-in_err-put_reply-clause-sends : goal.returns-in_err-put_reply-clause-sends
returns-in_err-put_reply-clause-sends g c =
    let before = g.C.Sink.written c.args.conn.now in
    let after = g.C.Sink.written c.loop-place.conn in
    by_err (λ (r : Result (Unit {0}) ServeEnd). Sends r before after (text_of (messages_of c.args.served.now c.args.index.now c.args.replies.now))) _ _ c.from_residual.ensures.1
    (waiting_kept c.args.served.now c.args.index.now c.args.replies.now c.loop-place.place c.loop-place.waiting.items before after c.loop-place.invariant.written)

pub returns-in_err-flush-clause-sends : goal.returns-in_err-flush-clause-sends
returns-in_err-flush-clause-sends g c =
    let served = c.args.served.now in
    let blocks = c.args.index.now in
    let replies = c.args.replies.now in
    let i = c.loop-place.place in
    let waiting = c.put_reply.new.waiting.items in
    let before = g.C.Sink.written c.args.conn.now in
    let between = g.C.Sink.written c.loop-place.conn in
    let after = g.C.Sink.written c.flush.new.conn in
    let outcome = c.in_err-flush.field-0.0 in
    let put = waiting_more served blocks replies i OwnVersion c.loop-place.waiting.items waiting before between (omega (arith, c.loop-place-test.true, c.len-place-end.ensures)) c.loop-place.invariant.written
    (c.in_ok-put_reply.ensures ∙ ap (λ (r : Reply). c.loop-place.waiting.items ++ spelling (frame_of (message_of served blocks r))) (c.at.ensures OwnVersion)) in
    by_err (λ (r : Result (Unit {0}) ServeEnd). Sends r before after (text_of (messages_of served blocks replies))) _ _ c.from_residual-in_err-flush.ensures.1
    (front_in_part served blocks replies (i + 1) outcome before after
    (waiting_sent (Err outcome) before between after waiting (text_of (messages_of served blocks (take (i + 1) replies))) put c.in_err-flush.ensures.sends))

pub loop-place-preserved : goal.loop-place-preserved
loop-place-preserved g c =
    let served = c.args.served.now in
    let blocks = c.args.index.now in
    let replies = c.args.replies.now in
    let i = c.loop-place.place in
    let waiting = c.put_reply.new.waiting.items in
    let text = text_of (messages_of served blocks (take (i + 1) replies)) in
    let before = g.C.Sink.written c.args.conn.now in
    let between = g.C.Sink.written c.loop-place.conn in
    let put = waiting_more served blocks replies i OwnVersion c.loop-place.waiting.items waiting before between (omega (arith, c.loop-place-test.true, c.len-place-end.ensures)) c.loop-place.invariant.written
    (c.in_ok-put_reply.ensures ∙ ap (λ (r : Reply). c.loop-place.waiting.items ++ spelling (frame_of (message_of served blocks r))) (c.at.ensures OwnVersion)) in
    elim c.if-len-ge-TOGETHER.branch [
      | then-len-ge-TOGETHER+in_ok-flush w ↦
          let sent = w.in_ok-flush.ensures in
          record {
            written = subst (λ (p : Option (List ℕ)). Waiting before p c.if-len-ge-TOGETHER.waiting.items text) (sym (ap g.C.Sink.written w.conn-is))
                (waiting_written before between (g.C.Sink.written w.flush.new.conn) waiting c.if-len-ge-TOGETHER.waiting.items text put sent.sends (ap (λ v. v.items) w.waiting-is ∙ sent.none));
            count = ap g.C.Sink.faults w.conn-is ∙ sent.count ∙ c.loop-place.invariant.count;
            left = ap g.C.Source.left w.conn-is ∙ sent.left ∙ c.loop-place.invariant.left;
            ended = ap g.C.Source.ended w.conn-is ∙ sent.ended ∙ c.loop-place.invariant.ended;
            read_faults = ap g.C.Source.faults w.conn-is ∙ sent.read_faults ∙ c.loop-place.invariant.read_faults;
          }
      | else-len-ge-TOGETHER w ↦ record {
        written = subst (λ (p : Option (List ℕ)). Waiting before p c.if-len-ge-TOGETHER.waiting.items text) (sym (ap g.C.Sink.written w.conn-is)) (subst (λ (w : List ℕ). Waiting before between w text) (sym (ap (λ v. v.items) w.waiting-is)) put);
        count = ap g.C.Sink.faults w.conn-is ∙ c.loop-place.invariant.count;
        left = ap g.C.Source.left w.conn-is ∙ c.loop-place.invariant.left;
        ended = ap g.C.Source.ended w.conn-is ∙ c.loop-place.invariant.ended;
        read_faults = ap g.C.Source.faults w.conn-is ∙ c.loop-place.invariant.read_faults;
      }
    ]

pub returns-clause-sends : goal.returns-clause-sends
returns-clause-sends g c =
    let served = c.args.served.now in
    let blocks = c.args.index.now in
    let replies = c.args.replies.now in
    let before = g.C.Sink.written c.args.conn.now in
    let between = g.C.Sink.written c.loop-place.conn in
    let after = g.C.Sink.written c.flush-2.new.conn in
    let all = ap (λ (rs : List Reply). text_of (messages_of served blocks rs)) (take_all c.loop-place.place replies (omega (arith, c.loop-place-test.false, c.len-place-end.ensures))) in
    waiting_sent c.flush-2.result before between after c.loop-place.waiting.items (text_of (messages_of served blocks replies))
    (subst (Waiting before between c.loop-place.waiting.items) all c.loop-place.invariant.written) c.flush-2.ensures.sends
