-- What is sent is read back.
use Rattle.std.proofs.Common.{◌≡◌, Some, ap, ◌∙◌}
use Rattle.cf_frame.proofs.Streams.{stream_of_spelling}
use Rattle.cf_msg.specs.declared.msg.Msg.{Msg}
use Rattle.cf_msg.specs.Message.{frame_of}
use Rattle.cf_msg.proofs.Table.{again, frame_fits}
use Rattle.cf_peer.specs.Acts.{bytes_of, IsSendable}
use Rattle.cf_peer.specs.Trail.{spelled, message_of_stream, message_in}

pub spelled_bytes : (m : Msg) → IsSendable m → spelled (bytes_of m) ≡ Some m
spelled_bytes m sendable =
    ap message_of_stream (stream_of_spelling (frame_of m) (frame_fits m sendable.spelled sendable.short))
    ∙ ap message_in (again m sendable.spelled)
