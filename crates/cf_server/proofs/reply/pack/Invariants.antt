use Rattle.std.proofs.Common.{◌≡◌, take}
use Rattle.cf_server.proofs.reply.pack.Given as goal

abbrev pub invariant-loop-reply : goal.invariant-loop-reply
invariant-loop-reply l = l.packed ≡ take l.reply-index l.replies
