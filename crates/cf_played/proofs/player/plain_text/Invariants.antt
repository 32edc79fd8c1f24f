use Rattle.std.proofs.Common.{◌≡◌, take}
use Rattle.cf_server.specs.Replies.{messages_of}
use Rattle.cf_server.specs.Serving.{text_of}
use Rattle.cf_played.specs.Frames.{AreFramesAlike, machine}
use Rattle.cf_played.proofs.player.plain_text.Given as goal

abbrev pub invariant-loop-reply : goal.invariant-loop-reply
invariant-loop-reply l = record {
  written : l.text.items ≡ text_of (messages_of (machine l.seen) l.index (take l.reply-index l.replies));
  alike : AreFramesAlike (messages_of (machine l.seen) l.index (take l.reply-index l.replies)) l.text.items;
}
