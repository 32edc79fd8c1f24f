-- statement: what can be done of what the client wants.
use Rattle.std.specs.Prelude.{ℕ, ◌<◌, ◌≤◌, List, length}
use Rattle.cf_frame.specs.Frame.{spelling}
use Rattle.cf_msg.specs.declared.msg.Msg.{Msg}
use Rattle.cf_msg.specs.Message.{HasSpelling, payload_of, frame_of}
use Rattle.cf_peer.specs.declared.act.Act.{Act}
use Rattle.cf_peer.specs.declared.act.Act.TheVariants.{Send, Close}

-- the bytes of a message on the wire
abbrev pub bytes_of : Msg → List ℕ
bytes_of m = spelling (frame_of m)

-- a message that can be written
pub record IsSendable (m : Msg) : Type 0 where
  pub spelled : HasSpelling m
  pub short : length (payload_of m) ≤ 4000000

-- an act names one of the peers, and what it sends can be written
abbrev pub IsDoable : Act → Type 0
IsDoable (Send p m) = (p.0 < 9) × IsSendable m
IsDoable (Close p cause) = p.0 < 9
