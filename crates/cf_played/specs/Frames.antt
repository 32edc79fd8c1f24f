-- machine: the frames of a peer's answers, one for each message.
use Rattle.std.specs.Prelude.{◌≡◌, ℕ, pos, ◌<◌, ◌^◌, Bool, true, List}
use Rattle.std.specs.List.{AllByRecursion}
use Rattle.cf_frame.specs.Frame.{spelling}
use Rattle.cf_msg.specs.declared.msg.Msg.{Msg}
use Rattle.cf_msg.specs.Message.{frame_of}
use Rattle.cf_peer.specs.Acts.{IsSendable}
use Rattle.cf_played.specs.Answers.{is_filtering, IsAlike, AreAlike}
use Rattle.cf_server.specs.declared.answering.Serving.{Serving}
use Rattle.cf_server.specs.declared.reply.Reply.{Reply}
use Rattle.cf_server.specs.declared.reply.Reply.TheVariants.{PongOf}
use Rattle.cf_server.specs.Serving.{text_of}

-- the machine that answers: its time is 0 and its number 0; a version has come, or none has
abbrev pub machine : Bool → Serving
machine seen = record { time = pos 0; nonce = 0; seen = seen }

-- a number that a reply has is one of 64 bits
abbrev pub IsInRange : Reply → Type 0
IsInRange (PongOf number) = number < 2 ^ 64
IsInRange _ = Unit {0}

-- a message tells of filters, and can be written
pub record IsOther (m : Msg) : Type 0 where
  pub fit : IsSendable m
  pub filtering : is_filtering m ≡ true

-- a text is the frame of a message that is like this one
pub record IsFrameAlike (n : Msg) (text : List ℕ) : Type 0 where
  pub message : Msg
  pub alike : IsAlike message n
  pub fit : IsSendable message
  pub text_is : text ≡ spelling (frame_of message)

-- a text is the frames of messages that are like these
pub record AreFramesAlike (ns : List Msg) (text : List ℕ) : Type 0 where
  pub messages : List Msg
  pub alike : AreAlike messages ns
  pub fit : AllByRecursion IsSendable messages
  pub text_is : text ≡ text_of messages
