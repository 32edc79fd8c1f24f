-- statement: what a connection is served: how its bytes are taken, and what each outcome tells of them.
use Rattle.std.specs.Prelude.{◌≡◌, ℕ, ℤ, zero, suc, ◌≤◌, Bool, true, false, List, [], ◌∷◌, length, take, Option, Some, None, IfSome, Result, Ok, Err}
use Rattle.std.specs.List.{flat_map}
use Rattle.cf_bytes.specs.Outside.{HasRisen, with_more}
use Rattle.cf_conn.specs.Source.{with_front}
use Rattle.cf_block.specs.declared.tx.Block.{Block}
use Rattle.cf_frame.specs.declared.frame.Frame.{Frame}
use Rattle.cf_frame.specs.declared.frame.FrameFault.{FrameFault}
use Rattle.cf_frame.specs.Frame.{spelling}
use Rattle.cf_frame.specs.Reading.{Front, front_of}
use Rattle.cf_msg.specs.declared.msg.Msg.{Msg}
use Rattle.cf_msg.specs.declared.msg.Malformed.{Malformed}
use Rattle.cf_msg.specs.Message.{Spells, frame_of}
use Rattle.cf_msg.specs.Reading.{message_of}
use Rattle.cf_chain.specs.Serve.{replies}
use Rattle.cf_server.specs.declared.outcome.ServeEnd.{ServeEnd}
use Rattle.cf_server.specs.declared.outcome.ServeEnd.TheVariants.{Closed, BadFrame, Malformed as MalformedFrame, ReadFault, WriteFault, Tired, NoMemory}

-- ---- how bytes are taken

-- what comes after the messages
pub data Stop : Type 0 where
  -- no further whole frame, and no fault
  Waits : Stop
  -- no frame can be read
  IsBad : (fault : FrameFault) → Stop
  -- a frame spells no message
  IsMalformed : (fault : Malformed) → Stop
  -- as many frames were taken as may be
  IsFull : Stop

-- the messages of some bytes, and what comes after them
pub record Course : Type 0 where
  pub messages : List Msg
  pub stop : Stop

-- no message, and then this stop
abbrev pub stops : Stop → Course
stops stop = record { messages = []; stop = stop }

-- the same with one message before the others
abbrev pub with_message : Msg → Course → Course
with_message m course = record course { messages = m ∷ course.messages }

-- a frame's message and the course of the bytes after it; or a stop, where the frame spells none
abbrev pub course_after : (List ℕ → Course) → List ℕ → Result Msg Malformed → Course
course_after next more (Err fault) = stops (IsMalformed fault)
course_after next more (Ok m) = with_message m (next more)

-- by what stands at the front: a frame's course, or a stop
abbrev pub course_from : (List ℕ → Course) → Front → Course
course_from next (Err fault) = stops (IsBad fault)
course_from next (Ok None) = stops Waits
course_from next (Ok (Some x)) = course_after next x.1 (message_of x.0)

-- the messages of the frames at the front of these bytes, at most so many, and what comes after them
unfoldable pub course : ℕ → List ℕ → Course
course zero bytes = stops IsFull
course (suc n) bytes = course_from (course n) (front_of bytes)

-- the most frames of one connection
unfoldable pub most_frames : ℕ
most_frames = 1000000

-- ---- what is written

-- the frames of messages, joined
unfoldable pub text_of : List Msg → List ℕ
text_of messages = flat_map (λ m. spelling (frame_of m)) messages

-- those of the machine's replies to these messages
abbrev pub reply_bytes : ℤ → ℕ → List Block → List Msg → List ℕ
reply_bytes moment nonce blocks messages = text_of (replies moment nonce blocks false messages)

-- all of a text was written
abbrev pub Whole : Option (List ℕ) → Option (List ℕ) → List ℕ → Type 0
Whole before after text = after ≡ with_more before text

-- a beginning of a text was written, all of it perhaps
abbrev pub Beginning : Option (List ℕ) → Option (List ℕ) → List ℕ → Type 0
Beginning before after text = (n : ℕ) × (n ≤ length text) × (after ≡ with_more before (take n text))

-- ---- what each outcome tells

-- it comes exactly there
abbrev pub ComesAt : ServeEnd → Stop → Type 0
ComesAt Closed stop = stop ≡ Waits
ComesAt (BadFrame fault) stop = stop ≡ IsBad fault
ComesAt (MalformedFrame fault) stop = stop ≡ IsMalformed fault
ComesAt ReadFault stop = stop ≡ Waits
ComesAt WriteFault stop = Unit {0}
ComesAt Tired stop = stop ≡ IsFull
ComesAt NoMemory stop = Unit {0}

-- what is written by then
abbrev pub Writes : ServeEnd → Option (List ℕ) → Option (List ℕ) → List ℕ → Type 0
Writes WriteFault before after text = Beginning before after text
Writes NoMemory before after text = Beginning before after text
Writes outcome before after text = Whole before after text

-- Of a connection whose source told these bytes: those of them that were taken, where the outcome comes, and what was written for them.
pub record IsServed (moment : ℤ) (nonce : ℕ) (blocks : List Block) (outcome : ServeEnd) (bytes : List ℕ) (left before after : Option (List ℕ)) : Type 0 where
  pub taken : List ℕ
  pub rest : Some bytes ≡ with_front taken left
  pub comes : ComesAt outcome (course most_frames taken).stop
  pub writes : Writes outcome before after (reply_bytes moment nonce blocks (course most_frames taken).messages)

-- a fault comes only where its count has risen; the counts of reading and of writing stand still otherwise
abbrev pub Counts : ServeEnd → ℕ → ℕ → ℕ → ℕ → Type 0
Counts ReadFault reads reads_after writes writes_after = HasRisen reads reads_after × (writes_after ≡ writes)
Counts WriteFault reads reads_after writes writes_after = (reads_after ≡ reads) × HasRisen writes writes_after
Counts outcome reads reads_after writes writes_after = (reads_after ≡ reads) × (writes_after ≡ writes)

-- at the source's end nothing is left
abbrev pub Ends : ServeEnd → Bool → Option (List ℕ) → Type 0
Ends Closed ended left = (ended ≡ true) × IfSome left (λ bytes. bytes ≡ [])
Ends outcome ended left = Unit {0}

-- ---- what the standard says of the same bytes

-- each frame spells its message
abbrev pub AreSpelled : List Msg → List Frame → Type 0
AreSpelled [] [] = Unit {0}
AreSpelled (m ∷ ms) (f ∷ fs) = Spells m f.command f.payload × AreSpelled ms fs
AreSpelled ms fs = ⊥
