use Rattle.std.proofs.Common.{◌≡◌, List, ℕ, [], ◌++◌, ◌+◌, ◌∙◌, sym, ap, subst, take, get_or}
use Rattle.cf_frame.specs.Frame.{spelling}
use Rattle.cf_msg.specs.Message.{frame_of}
use Rattle.cf_server.specs.declared.reply.Reply.TheVariants.{OwnVersion}
use Rattle.cf_server.specs.Replies.{message_of, messages_of}
use Rattle.cf_server.proofs.Steps.{reply_text_on}
use Rattle.cf_server.proofs.Texts.{text-nil}
use Rattle.cf_played.specs.Frames.{AreFramesAlike, machine}
use Rattle.cf_played.proofs.Alike.{more_alike, no_frames}
use Rattle.cf_played.proofs.player.plain_text.Goals as goal

pub loop-reply-init : goal.loop-reply-init
loop-reply-init c =
    let e = text-nil in
    let none : c.new-text.result.items ≡ [] = cc in
    record { written = cc; alike = subst (λ (s : List ℕ). AreFramesAlike [] s) (sym none) no_frames }

pub loop-reply-preserved : goal.loop-reply-preserved
loop-reply-preserved c =
    let i = c.loop-reply.reply-index in
    let e = reply_text_on (machine c.args.seen) c.args.index.now c.args.replies.now i OwnVersion c.loop-reply-test.true in
    let added = c.in_ok-put_frame.ensures in
    record {
      written = added
          ∙ ap (λ (s : List ℕ). c.loop-reply.text.items ++ s) c.in_ok-frame.ensures.exact
          ∙ ap (λ (s : List ℕ). s ++ spelling (frame_of (message_of (machine c.args.seen) c.args.index.now (get_or c.args.replies.now i OwnVersion)))) c.loop-reply.invariant.written
          ∙ sym e;
      alike = subst (λ (s : List ℕ). AreFramesAlike (messages_of (machine c.args.seen) c.args.index.now (take (i + 1) c.args.replies.now)) s) (sym added)
          (more_alike c.args.seen c.args.index.now c.args.replies.now i OwnVersion c.loop-reply.text.items c.in_ok-frame.frame.items c.loop-reply-test.true c.loop-reply.invariant.alike c.in_ok-frame.ensures.alike);
    }
