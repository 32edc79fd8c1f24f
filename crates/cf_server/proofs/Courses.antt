-- The course of bytes: the messages of the frames at their front, and what comes after.
use Rattle.std.proofs.Common.{◌≡◌, ℕ, suc, List, ◌++◌, Some, None, Result, Ok, Err, refl, sym, ap, ◌∙◌, append_assoc}
use Rattle.cf_frame.specs.declared.frame.Frame.{Frame}
use Rattle.cf_frame.specs.declared.frame.FrameFault.{FrameFault}
use Rattle.cf_frame.specs.Reading.{Front, front_of}
use Rattle.cf_frame.proofs.Fields.{grows}
use Rattle.cf_msg.specs.declared.msg.Msg.{Msg}
use Rattle.cf_msg.specs.declared.msg.Malformed.{Malformed}
use Rattle.cf_msg.specs.Reading.{message_of}
use Rattle.cf_server.specs.Serving.{Course, Waits, IsBad, IsFull, stops, course_after, course_from, course}
use Rattle.cf_server.specs.Taking.{with_messages}

pub course_step : (n : ℕ) (bytes : List ℕ) (r : Front) → front_of bytes ≡ r → course (suc n) bytes ≡ course_from (course n) r
unfolding course
course_step n bytes r e = ap (course_from (course n)) e

pub course_full : (bytes : List ℕ) → course 0 bytes ≡ stops IsFull
unfolding course
course_full bytes = refl

pub course_waits : (n : ℕ) (bytes : List ℕ) → front_of bytes ≡ Ok None → course (suc n) bytes ≡ stops Waits
course_waits n bytes e = course_step n bytes (Ok None) e

pub course_bad : (n : ℕ) (bytes : List ℕ) (fault : FrameFault) → front_of bytes ≡ Err fault → course (suc n) bytes ≡ stops (IsBad fault)
course_bad n bytes fault e = course_step n bytes (Err fault) e

-- a frame at the front, whatever follows the bytes
pub course_frame : (n : ℕ) (bytes rest more : List ℕ) (f : Frame) (read : Result Msg Malformed) → front_of bytes ≡ Ok (Some (f, rest)) → message_of f ≡ read
    → course (suc n) (bytes ++ more) ≡ course_after (course n) (rest ++ more) read
course_frame n bytes rest more f read e is =
    course_step n (bytes ++ more) (Ok (Some (f, rest ++ more))) (grows bytes f rest more e) ∙ ap (course_after (course n) (rest ++ more)) is

-- the same where nothing follows
pub course_frame_alone : (n : ℕ) (bytes rest : List ℕ) (f : Frame) (read : Result Msg Malformed) → front_of bytes ≡ Ok (Some (f, rest)) → message_of f ≡ read
    → course (suc n) bytes ≡ course_after (course n) rest read
course_frame_alone n bytes rest f read e is = course_step n bytes (Ok (Some (f, rest))) e ∙ ap (course_after (course n) rest) is

pub messages_joined : (a b : List Msg) (c : Course) → with_messages a (with_messages b c) ≡ with_messages (a ++ b) c
messages_joined a b c = ap (λ ms. record { messages = ms; stop = c.stop }) (sym (append_assoc a b c.messages))
