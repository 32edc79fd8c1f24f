use Rattle.std.proofs.Common.{◌≡◌, List, ℕ, [], ◌+◌, sym, subst, take}
use Rattle.cf_server.specs.declared.reply.Reply.TheVariants.{OwnVersion}
use Rattle.cf_server.specs.Replies.{messages_of}
use Rattle.cf_played.specs.Frames.{AreFramesAlike, machine}
use Rattle.cf_played.proofs.Alike.{more_alike, no_frames}
use Rattle.cf_played.proofs.omitting.omitted_text.Goals as goal

pub loop-reply-init : goal.loop-reply-init
loop-reply-init c = let none : c.new-text.result.items ≡ [] = cc in record { alike = subst (λ (s : List ℕ). AreFramesAlike [] s) (sym none) no_frames }

pub loop-reply-preserved : goal.loop-reply-preserved
loop-reply-preserved c =
    let i = c.loop-reply.reply-index in
    record {
      alike = subst (λ (s : List ℕ). AreFramesAlike (messages_of (machine c.args.seen) c.args.index.now (take (i + 1) c.args.replies.now)) s) (sym c.in_ok-put_frame.ensures)
          (more_alike c.args.seen c.args.index.now c.args.replies.now i OwnVersion c.loop-reply.text.items c.in_ok-frame.frame.items c.loop-reply-test.true c.loop-reply.invariant.alike c.in_ok-frame.ensures);
    }
