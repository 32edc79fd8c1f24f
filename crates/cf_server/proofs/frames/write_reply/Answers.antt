use Rattle.std.proofs.Common.{lit≤}
use Rattle.cf_msg.specs.Message.{payload_of}
use Rattle.cf_server.proofs.frames.write_reply.Goals as goal

pub message_bytes-requires-clause-fits : goal.message_bytes-requires-clause-fits
unfolding payload_of
message_bytes-requires-clause-fits c = lit≤ tt

pub message_bytes-requires-in-PongOf-clause-fits : goal.message_bytes-requires-in-PongOf-clause-fits
unfolding payload_of
message_bytes-requires-in-PongOf-clause-fits c = lit≤ tt
