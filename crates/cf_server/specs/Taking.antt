-- machine: what the steps of serving a connection do.
use Rattle.std.specs.Prelude.{◌≡◌, ℕ, ◌≤◌, ◌||◌, List, [], ◌∷◌, ◌++◌, Option, Some, None, Result, Ok, Err}
use Rattle.cf_bytes.specs.Outside.{HasRisen}
use Rattle.cf_conn.specs.Source.{with_front}
use Rattle.cf_block.specs.declared.tx.Block.{Block}
use Rattle.cf_frame.specs.declared.frame.Frame.{Frame}
use Rattle.cf_frame.specs.Reading.{front_of}
use Rattle.cf_msg.specs.declared.msg.Msg.{Msg}
use Rattle.cf_msg.specs.declared.msg.Malformed.{Malformed}
use Rattle.cf_msg.specs.Message.{is_version}
use Rattle.cf_chain.specs.Serve.{replies, replies_to}
use Rattle.cf_server.specs.declared.answering.Serving.{Serving}
use Rattle.cf_server.specs.declared.outcome.ServeEnd.{ServeEnd}
use Rattle.cf_server.specs.declared.outcome.ServeEnd.TheVariants.{Closed, BadFrame, Malformed as MalformedFrame, ReadFault, WriteFault, NoMemory}
use Rattle.cf_server.specs.Serving.{Course, course, most_frames, text_of, Whole, Beginning, ComesAt, Writes}

-- what became of a text that was to be written
abbrev pub Sends : Result (Unit {0}) ServeEnd → Option (List ℕ) → Option (List ℕ) → List ℕ → Type 0
Sends (Ok x) before after text = Whole before after text
Sends (Err WriteFault) before after text = Beginning before after text
Sends (Err NoMemory) before after text = Beginning before after text
Sends (Err outcome) before after text = ⊥

-- the count of failed writes
abbrev pub CountsWrites : Result (Unit {0}) ServeEnd → ℕ → ℕ → Type 0
CountsWrites (Ok x) before after = after ≡ before
CountsWrites (Err WriteFault) before after = HasRisen before after
CountsWrites (Err outcome) before after = after ≡ before

-- the peer's version is seen once it comes
abbrev pub served_on : Serving → Msg → Serving
served_on served m = record served { seen = is_version m || served.seen }

-- what is written for a message, and for messages in their order
abbrev pub text_for : Serving → List Block → Msg → List ℕ
text_for served blocks m = text_of (replies_to served.time served.nonce blocks served.seen m)

abbrev pub text_on : Serving → List Block → List Msg → List ℕ
text_on served blocks messages = text_of (replies served.time served.nonce blocks served.seen messages)

-- what is written for a frame
abbrev pub frame_text : Serving → List Block → Result Msg Malformed → List ℕ
frame_text served blocks (Ok m) = text_for served blocks m
frame_text served blocks (Err fault) = []

-- a frame was answered whole
pub record Answered (blocks : List Block) (read : Result Msg Malformed) (old new : Serving) (before after : Option (List ℕ)) : Type 0 where
  pub message : Msg
  pub is : read ≡ Ok message
  pub served : new ≡ served_on old message
  pub written : Whole before after (text_for old blocks message)

abbrev pub AnswersFrame : Result (Unit {0}) ServeEnd → List Block → Result Msg Malformed → Serving → Serving → Option (List ℕ) → Option (List ℕ) → Type 0
AnswersFrame (Ok x) blocks read old new before after = Answered blocks read old new before after
AnswersFrame (Err (MalformedFrame fault)) blocks read old new before after = (read ≡ Err fault) × (after ≡ before)
AnswersFrame (Err WriteFault) blocks read old new before after = Beginning before after (frame_text old blocks read)
AnswersFrame (Err NoMemory) blocks read old new before after = Beginning before after (frame_text old blocks read)
AnswersFrame (Err outcome) blocks read old new before after = ⊥

-- the next frame, if one waits
abbrev pub FindsFrame : Result (Option Frame) ServeEnd → List ℕ → List ℕ → Type 0
FindsFrame (Ok None) old new = (front_of old ≡ Ok None) × (new ≡ old)
FindsFrame (Ok (Some f)) old new = front_of old ≡ Ok (Some (f, new))
FindsFrame (Err (BadFrame fault)) old new = front_of old ≡ Err fault
FindsFrame (Err NoMemory) old new = Unit {0}
FindsFrame (Err outcome) old new = ⊥

-- with messages before it
abbrev pub with_messages : List Msg → Course → Course
with_messages messages course = record course { messages = messages ++ course.messages }

abbrev pub served_after : Serving → List Msg → Serving
served_after served [] = served
served_after served (m ∷ ms) = served_after (served_on served m) ms

-- Frames were taken and answered: so many may still come, and these bytes wait. Whatever follows, what is left leads to the same end.
pub record Moves (blocks : List Block) (frames frames_after : ℕ) (waits waits_after : List ℕ) (old new : Serving) (before after : Option (List ℕ)) : Type 0 where
  pub messages : List Msg
  pub leads : (more : List ℕ) → course frames (waits ++ more) ≡ with_messages messages (course frames_after (waits_after ++ more))
  pub served : new ≡ served_after old messages
  pub written : Whole before after (text_on old blocks messages)

-- an end of serving: where it comes, and what is written by then
pub record Stops (blocks : List Block) (outcome : ServeEnd) (frames : ℕ) (waits : List ℕ) (served : Serving) (before after : Option (List ℕ)) : Type 0 where
  pub comes : ComesAt outcome (course frames waits).stop
  pub writes : Writes outcome before after (text_on served blocks (course frames waits).messages)

-- all frames that wait were taken, or serving ends
abbrev pub TakesFrames : Result (Unit {0}) ServeEnd → List Block → ℕ → ℕ → List ℕ → List ℕ → Serving → Serving → Option (List ℕ) → Option (List ℕ) → Type 0
TakesFrames (Ok x) blocks frames frames_after waits waits_after old new before after = Moves blocks frames frames_after waits waits_after old new before after
TakesFrames (Err outcome) blocks frames frames_after waits waits_after old new before after = Stops blocks outcome frames waits old before after

-- no whole frame waits, and there is room for one more; frames were taken, or the same bytes wait
pub record Idles (frames frames_after : ℕ) (waits waits_after : List ℕ) : Type 0 where
  pub waiting : front_of waits_after ≡ Ok None
  pub room : 1 ≤ frames_after
  pub fewer : frames_after ≤ frames
  pub same : frames_after ≡ frames → waits_after ≡ waits

-- on the way through the bytes that a source told
pub record Midway (blocks : List Block) (start : Serving) (bytes : List ℕ) (left : Option (List ℕ)) (frames : ℕ) (waits : List ℕ) (served : Serving) (before after : Option (List ℕ)) : Type 0 where
  pub taken : List ℕ
  pub rest : Some bytes ≡ with_front taken left
  pub moves : Moves blocks most_frames frames taken waits start served before after

-- an outcome that the frames which wait may lead to: the connection's reads don't
abbrev pub ComesInside : ServeEnd → Type 0
ComesInside Closed = ⊥
ComesInside ReadFault = ⊥
ComesInside outcome = Unit {0}
