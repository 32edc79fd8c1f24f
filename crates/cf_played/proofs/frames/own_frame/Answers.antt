use Rattle.std.proofs.lemmas.Result.{IfOk-weaker}
use Rattle.cf_server.specs.Replies.{message_of}
use Rattle.cf_played.specs.Frames.{machine}
use Rattle.cf_played.proofs.Alike.{own_alike}
use Rattle.cf_played.proofs.Written.{reply_fits}
use Rattle.cf_played.proofs.frames.own_frame.Goals as goal

pub returns-clause-alike : goal.returns-clause-alike
returns-clause-alike c =
    let fit = reply_fits c.args.seen c.args.index.now c.args.reply c.tip-tip.ensures.good c.requires c.see_range.ensures in
    IfOk-weaker c.write_reply.result _ _ (λ bytes is. own_alike (message_of (machine c.args.seen) c.args.index.now c.args.reply) bytes.items fit is) c.write_reply.ensures
