use Rattle.std.proofs.Common.{List, length, take_all, ◌∙◌, ap, arith}
use Rattle.cf_grow.proofs.Holding.{held_next, longer_by_one, parts_none}
use Rattle.cf_server.specs.declared.reply.Reply.{Reply}
use Rattle.cf_server.specs.declared.reply.Reply.TheVariants.{OwnVersion}
use Rattle.cf_server.specs.Replies.{messages_of}
use Rattle.cf_server.specs.Serving.{text_of}
use Rattle.cf_grow.proofs.held.hold_replies.Goals as goal

pub loop-reply-init : goal.loop-reply-init
loop-reply-init c = record {
  told = parts_none c.args.served.now c.args.index.now c.args.replies.now c.new-out.result c.new-out.ensures;
  count = ap length c.new-out.ensures;
}

pub loop-reply-preserved : goal.loop-reply-preserved
loop-reply-preserved c = record {
  told = held_next c.args.served.now c.args.index.now c.args.replies.now c.loop-reply.reply-index OwnVersion c.loop-reply.out c.push.new.self
      c.in_ok-part.part c.loop-reply-test.true c.loop-reply.invariant.told c.in_ok-push.ensures.ok c.in_ok-part.ensures;
  count = longer_by_one c.loop-reply.out c.push.new.self c.in_ok-part.part c.loop-reply.reply-index c.in_ok-push.ensures.ok c.loop-reply.invariant.count;
}

pub returns-clause-told : goal.returns-clause-told
returns-clause-told c =
    c.loop-reply.invariant.told
    ∙ ap (λ (rs : List Reply). text_of (messages_of c.args.served.now c.args.index.now rs))
    (take_all c.loop-reply.reply-index c.args.replies.now c.loop-reply-test.false)
