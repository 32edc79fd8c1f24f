-- statement: what a connection is served by a chain that grows, message by message.
use Rattle.std.specs.Prelude.{◌≡◌, ◌⊎◌, ℕ, Bool, List, [], ◌∷◌, ◌++◌, Option, Some, None, Result, Ok, Err}
use Rattle.cf_bytes.specs.Outside.{HasRisen}
use Rattle.cf_bytes.specs.declared.hash.Hash32.{Hash32}
use Rattle.cf_conn.specs.Source.{with_front}
use Rattle.cf_block.specs.declared.tx.Block.{Block}
use Rattle.cf_chain.specs.Good.{IsGoodChain}
use Rattle.cf_chain.specs.Grow.{TipMark, NotMet, TipTold, grow_answer}
use Rattle.cf_frame.specs.declared.frame.Frame.{Frame}
use Rattle.cf_frame.specs.Reading.{front_of}
use Rattle.cf_grow.specs.declared.ending.Ending.{Ending}
use Rattle.cf_grow.specs.declared.ending.Ending.TheVariants.{Served, Shrunk}
use Rattle.cf_grow.specs.declared.mark.Shrunk.{Shrunk as Hashes}
use Rattle.cf_grow.specs.declared.mark.TakeFail.{TakeFail}
use Rattle.cf_grow.specs.declared.mark.TakeFail.TheVariants.{Shrunk as NotThere, NoMemory as OutOfMemory}
use Rattle.cf_grow.specs.Standing.{Start, Keeps, StandsOn, hash_in}
use Rattle.cf_msg.specs.declared.msg.Msg.{Msg}
use Rattle.cf_msg.specs.declared.msg.Malformed.{Malformed}
use Rattle.cf_server.specs.declared.outcome.ServeEnd.TheVariants.{BadFrame, Malformed as MalformedFrame, WriteFault, NoMemory}
use Rattle.cf_server.specs.Outcomes.{number_of}
use Rattle.cf_server.specs.Serving.{Stop, course, most_frames, text_of, Whole, Beginning, ComesAt, Counts, Ends}
use Rattle.cf_server.specs.Taking.{with_messages, ComesInside}

-- ---- message by message

-- one message was answered by a good chain that has the first tip, and on which the mark stands: this is written, and the mark stands there next
pub record Answers (moment : Start) (nonce : ℕ) (mark : TipMark) (m : Msg) (next : TipMark) (text : List ℕ) : Type 0 where
  pub chain : List Block
  pub good : IsGoodChain chain
  pub keeps : Keeps chain moment.tip
  pub stands : StandsOn chain mark
  pub written : text ≡ text_of (grow_answer moment.time nonce chain mark m).replies
  pub moved : next ≡ (grow_answer moment.time nonce chain mark m).mark

-- the same of messages, one after another, each with the mark that the one before has left
abbrev pub AnswersEach : Start → ℕ → TipMark → List Msg → TipMark → List ℕ → Type 0
AnswersEach moment nonce mark [] last text = (last ≡ mark) × (text ≡ [])
AnswersEach moment nonce mark (m ∷ ms) last text =
    (next : TipMark) × (first : List ℕ) × (rest : List ℕ)
    × Answers moment nonce mark m next first × AnswersEach moment nonce next ms last rest × (text ≡ first ++ rest)

-- ---- how serving ends

-- the number of an ending, by which a service gives it back
abbrev pub ending_number : Ending → ℕ
ending_number (Served outcome) = number_of outcome
ending_number (Shrunk s) = 7

-- the ending where a message isn't answered
abbrev pub ending_of : TakeFail → Ending
ending_of (NotThere s) = Shrunk s
ending_of OutOfMemory = Served NoMemory

-- all messages were answered
pub record AllWritten (moment : Start) (nonce : ℕ) (mark : TipMark) (messages : List Msg) (before after : Option (List ℕ)) : Type 0 where
  pub last : TipMark
  pub text : List ℕ
  pub each : AnswersEach moment nonce mark messages last text
  pub whole : Whole before after text

-- some of them from the first on were answered, and of what is written for these a beginning stands
pub record SomeWritten (moment : Start) (nonce : ℕ) (mark : TipMark) (messages : List Msg) (before after : Option (List ℕ)) : Type 0 where
  pub answered : List Msg
  pub others : List Msg
  pub split : messages ≡ answered ++ others
  pub last : TipMark
  pub text : List ℕ
  pub each : AnswersEach moment nonce mark answered last text
  pub begins : Beginning before after text

-- this hash was told at this height, or stood there as the server began
abbrev pub WasThere : Start → TipMark → ℕ → Hash32 → Type 0
WasThere moment mark height hash = (mark ≡ TipTold height hash.0) ⊎ ((moment.tip.height ≡ height) × (moment.tip.hash ≡ hash))

-- some good chain has another hash at the height that was told, or at that of the first tip, or is lower: these are the hash that was there and the one there
pub record IsShrunk (moment : Start) (mark : TipMark) (hashes : Hashes) : Type 0 where
  pub chain : List Block
  pub good : IsGoodChain chain
  pub height : ℕ
  pub told : WasThere moment mark height hashes.seen
  pub found : hashes.found ≡ hash_in chain height
  pub other : hashes.found ≡ Some hashes.seen → ⊥

-- all before one of them were answered, and that one finds a chain that hasn't what a `version` has set, or what the server began with
pub record WrittenBefore (hashes : Hashes) (moment : Start) (nonce : ℕ) (mark : TipMark) (messages : List Msg)
    (before after : Option (List ℕ)) : Type 0 where
  pub answered : List Msg
  pub refused : Msg
  pub others : List Msg
  pub split : messages ≡ answered ++ refused ∷ others
  pub last : TipMark
  pub shrunk : IsShrunk moment last hashes
  pub text : List ℕ
  pub each : AnswersEach moment nonce mark answered last text
  pub whole : Whole before after text

-- what is written by then
abbrev pub Writes : Ending → Start → ℕ → TipMark → List Msg → Option (List ℕ) → Option (List ℕ) → Type 0
Writes (Served WriteFault) moment nonce mark messages before after = SomeWritten moment nonce mark messages before after
Writes (Served NoMemory) moment nonce mark messages before after = SomeWritten moment nonce mark messages before after
Writes (Served outcome) moment nonce mark messages before after = AllWritten moment nonce mark messages before after
Writes (Shrunk s) moment nonce mark messages before after = WrittenBefore s moment nonce mark messages before after

-- an outcome comes exactly there
abbrev pub Comes : Ending → Stop → Type 0
Comes (Served outcome) stop = ComesAt outcome stop
Comes (Shrunk s) stop = Unit {0}

-- Of a connection whose source told these bytes: those of them that were taken, where the ending comes, and what was written for them.
pub record IsServedGrowing (moment : Start) (nonce : ℕ) (ending : Ending) (bytes : List ℕ) (left before after : Option (List ℕ)) : Type 0 where
  pub taken : List ℕ
  pub rest : Some bytes ≡ with_front taken left
  pub comes : Comes ending (course most_frames taken).stop
  pub writes : Writes ending moment nonce NotMet (course most_frames taken).messages before after

-- a fault comes only where its count has risen; the counts of reading and of writing stand still otherwise
abbrev pub CountsOf : Ending → ℕ → ℕ → ℕ → ℕ → Type 0
CountsOf (Served outcome) reads reads_after writes writes_after = Counts outcome reads reads_after writes writes_after
CountsOf (Shrunk s) reads reads_after writes writes_after = (reads_after ≡ reads) × (writes_after ≡ writes)

-- at the source's end nothing is left
abbrev pub EndsOf : Ending → Bool → Option (List ℕ) → Type 0
EndsOf (Served outcome) ended left = Ends outcome ended left
EndsOf (Shrunk s) ended left = Unit {0}

-- ---- the steps

-- the count of failed writes
abbrev pub CountsSends : Result (Unit {0}) Ending → ℕ → ℕ → Type 0
CountsSends (Err (Served WriteFault)) before after = HasRisen before after
CountsSends result before after = after ≡ before

-- what became of a frame
pub record Answered (moment : Start) (nonce : ℕ) (read : Result Msg Malformed) (old new : TipMark) (before after : Option (List ℕ)) : Type 0 where
  pub message : Msg
  pub is : read ≡ Ok message
  pub text : List ℕ
  pub answers : Answers moment nonce old message new text
  pub written : Whole before after text

pub record Begun (moment : Start) (nonce : ℕ) (read : Result Msg Malformed) (old : TipMark) (before after : Option (List ℕ)) : Type 0 where
  pub message : Msg
  pub is : read ≡ Ok message
  pub next : TipMark
  pub text : List ℕ
  pub answers : Answers moment nonce old message next text
  pub begins : Beginning before after text

-- a frame that can't be answered has nothing written for it, or a beginning
abbrev pub Fails : Start → ℕ → Result Msg Malformed → TipMark → Option (List ℕ) → Option (List ℕ) → Type 0
Fails moment nonce read old before after = (after ≡ before) ⊎ Begun moment nonce read old before after

abbrev pub AnswersFrame : Result (Unit {0}) Ending → Start → ℕ → Result Msg Malformed → TipMark → TipMark → Option (List ℕ) → Option (List ℕ) → Type 0
AnswersFrame (Ok x) moment nonce read old new before after = Answered moment nonce read old new before after
AnswersFrame (Err (Served (MalformedFrame fault))) moment nonce read old new before after = (read ≡ Err fault) × (after ≡ before)
AnswersFrame (Err (Served WriteFault)) moment nonce read old new before after = Fails moment nonce read old before after
AnswersFrame (Err (Served NoMemory)) moment nonce read old new before after = Fails moment nonce read old before after
AnswersFrame (Err (Served outcome)) moment nonce read old new before after = ⊥
AnswersFrame (Err (Shrunk s)) moment nonce read old new before after =
    ((message : Msg) × (read ≡ Ok message)) × IsShrunk moment old s × (after ≡ before)

-- the next frame, if one waits
abbrev pub FindsFrame : Result (Option Frame) Ending → List ℕ → List ℕ → Type 0
FindsFrame (Ok None) old new = (front_of old ≡ Ok None) × (new ≡ old)
FindsFrame (Ok (Some f)) old new = front_of old ≡ Ok (Some (f, new))
FindsFrame (Err (Served (BadFrame fault))) old new = front_of old ≡ Err fault
FindsFrame (Err (Served NoMemory)) old new = Unit {0}
FindsFrame (Err ending) old new = ⊥

-- Frames were taken and answered: so many may still come, and these bytes wait. Whatever follows, what is left leads to the same end.
pub record Moves (moment : Start) (nonce : ℕ) (frames frames_after : ℕ) (waits waits_after : List ℕ) (old new : TipMark) (before after : Option (List ℕ)) : Type 0 where
  pub messages : List Msg
  pub leads : (more : List ℕ) → course frames (waits ++ more) ≡ with_messages messages (course frames_after (waits_after ++ more))
  pub text : List ℕ
  pub each : AnswersEach moment nonce old messages new text
  pub written : Whole before after text

-- an end of serving: where it comes, and what is written by then
pub record Stops (moment : Start) (nonce : ℕ) (ending : Ending) (frames : ℕ) (waits : List ℕ) (mark : TipMark) (before after : Option (List ℕ)) : Type 0 where
  pub comes : Comes ending (course frames waits).stop
  pub writes : Writes ending moment nonce mark (course frames waits).messages before after

-- all frames that wait were taken, or serving ends
abbrev pub TakesFrames : Result (Unit {0}) Ending → Start → ℕ → ℕ → ℕ → List ℕ → List ℕ → TipMark → TipMark → Option (List ℕ) → Option (List ℕ) → Type 0
TakesFrames (Ok x) moment nonce frames frames_after waits waits_after old new before after = Moves moment nonce frames frames_after waits waits_after old new before after
TakesFrames (Err ending) moment nonce frames frames_after waits waits_after old new before after = Stops moment nonce ending frames waits old before after

-- on the way through the bytes that a source told
pub record Midway (moment : Start) (nonce : ℕ) (bytes : List ℕ) (left : Option (List ℕ)) (frames : ℕ) (waits : List ℕ) (mark : TipMark) (before after : Option (List ℕ)) : Type 0 where
  pub taken : List ℕ
  pub rest : Some bytes ≡ with_front taken left
  pub moves : Moves moment nonce most_frames frames taken waits NotMet mark before after

-- an ending that the frames which wait may lead to: the connection's reads don't
abbrev pub EndsInside : Ending → Type 0
EndsInside (Served outcome) = ComesInside outcome
EndsInside (Shrunk s) = Unit {0}
