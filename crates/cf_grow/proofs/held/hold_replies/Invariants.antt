use Rattle.std.proofs.Common.{◌≡◌, length, take}
use Rattle.cf_grow.specs.Held.{texts_in}
use Rattle.cf_server.specs.Replies.{messages_of}
use Rattle.cf_server.specs.Serving.{text_of}
use Rattle.cf_grow.proofs.held.hold_replies.Given as goal

abbrev pub invariant-loop-reply : goal.invariant-loop-reply
invariant-loop-reply l = record {
  told : texts_in l.out ≡ text_of (messages_of l.served l.index (take l.reply-index l.replies));
  count : length l.out ≡ l.reply-index;
}
