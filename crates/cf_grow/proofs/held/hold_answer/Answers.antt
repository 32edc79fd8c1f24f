use Rattle.std.proofs.Common.{List, ◌∙◌, ap}
use Rattle.cf_grow.proofs.Holding.{held_all}
use Rattle.cf_server.specs.declared.reply.Reply.{Reply}
use Rattle.cf_server.specs.Replies.{messages_of}
use Rattle.cf_server.specs.Serving.{text_of}
use Rattle.cf_grow.proofs.held.hold_answer.Goals as goal

pub returns : goal.returns
returns c =
    let rest = c.in_ok-rest.ensures.told
    ∙ ap (λ (rs : List Reply). text_of (messages_of c.args.served.now c.args.index.now rs)) c.as_slice.ensures in
    held_all c.args.served.now c.args.index.now c.args.answer c.new-told.result.items c.hold_news.new.told.items c.hold_wants.new.told.items c.from_vec.result c.in_ok-rest.rest
    c.new-told.ensures.items c.in_ok-hold_news.ensures c.in_ok-hold_wants.ensures c.from_vec.ensures rest
