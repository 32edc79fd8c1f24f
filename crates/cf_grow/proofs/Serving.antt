-- Messages that are answered one after another, and how serving them goes on and ends.
use Rattle.std.proofs.Common.{◌≡◌, ℕ, zero, suc, ◌+◌, ◌-◌, ◌≤◌, Bool, inl, inr, List, [], ◌∷◌, ◌++◌, Option, Some, None, Result, Ok, Err, refl, sym, ap, ◌∙◌, subst, arith, append_assoc}
use Rattle.std.specs.Prelude.{IfSome}
use Rattle.std.proofs.lemmas.List.{append-nil}
use Rattle.cf_conn.specs.Source.{with_front}
use Rattle.cf_chain.specs.Grow.{TipMark, NotMet}
use Rattle.cf_frame.specs.declared.frame.Frame.{Frame}
use Rattle.cf_frame.specs.declared.frame.FrameFault.{FrameFault}
use Rattle.cf_frame.specs.Reading.{front_of}
use Rattle.cf_grow.specs.declared.ending.Ending.{Ending}
use Rattle.cf_grow.specs.declared.ending.Ending.TheVariants.{Served, Shrunk}
use Rattle.cf_grow.specs.declared.mark.Shrunk.{Shrunk as Hashes}
use Rattle.cf_grow.specs.Standing.{Start}
use Rattle.cf_grow.specs.Serving.{Answers, AnswersEach, AllWritten, SomeWritten, WrittenBefore, Writes, Comes, Answered, Fails, AnswersFrame, FindsFrame, Moves, Stops, Midway, IsServedGrowing, EndsInside, EndsOf, CountsOf, CountsSends}
use Rattle.cf_msg.specs.declared.msg.Msg.{Msg}
use Rattle.cf_msg.specs.declared.msg.Malformed.{Malformed}
use Rattle.cf_msg.specs.Reading.{message_of}
use Rattle.cf_server.specs.declared.outcome.ServeEnd.TheVariants.{Closed, BadFrame, Malformed as MalformedFrame, ReadFault, WriteFault, Tired, NoMemory}
use Rattle.cf_server.specs.Serving.{Course, course, most_frames, Whole}
use Rattle.cf_server.specs.Taking.{with_messages}
use Rattle.cf_server.proofs.Courses.{course_full, course_waits, course_bad, course_frame, course_frame_alone}
use Rattle.cf_server.proofs.Steps.{if_some_on, inside_ends as plain_ends}
use Rattle.cf_server.proofs.Texts.{whole_none, whole_on, beginning_on, leads_on}

front_joined : (o : Option (List ℕ)) (a b : List ℕ) → with_front a (with_front b o) ≡ with_front (a ++ b) o
front_joined None a b = refl
front_joined (Some bytes) a b = ap Some (sym (append_assoc a b bytes))

-- ---- answers, one after another

pub each_one : (now : Start) (nonce : ℕ) (mark : TipMark) (m : Msg) (next : TipMark) (text : List ℕ) → Answers now nonce mark m next text
    → AnswersEach now nonce mark (m ∷ []) next text
each_one now nonce mark m next text answers = (next, text, [], answers, (refl, refl), sym (append-nil text))

pub each_joined : (now : Start) (nonce : ℕ) (mark mid last : TipMark) (a b : List Msg) (s t : List ℕ) → AnswersEach now nonce mark a mid s → AnswersEach now nonce mid b last t
    → AnswersEach now nonce mark (a ++ b) last (s ++ t)
each_joined now nonce mark mid last [] b s t first second =
    let one : AnswersEach now nonce mark b last t = subst (λ (x : TipMark). AnswersEach now nonce x b last t) first.0 second in
    subst (AnswersEach now nonce mark b last) (ap (λ (x : List ℕ). x ++ t) (sym first.1)) one
each_joined now nonce mark mid last (m ∷ ms) b s t first second = (
  first.0,
  first.1,
  first.2 ++ t,
  first.3,
  each_joined now nonce first.0 mid last ms b first.2 t first.4 second,
  ap (λ (x : List ℕ). x ++ t) first.5 ∙ append_assoc first.1 first.2 t,
)

-- ---- moves

pub moves_none : (now : Start) (nonce n : ℕ) (w : List ℕ) (mark : TipMark) (o : Option (List ℕ)) → Moves now nonce n n w w mark mark o o
moves_none now nonce n w mark o = record { messages = []; leads = λ more. refl; text = []; each = (refl, refl); written = whole_none o }

-- a frame was taken and answered
pub moves_frame : (now : Start) (nonce n : ℕ) (w rest : List ℕ) (f : Frame) (mark next : TipMark) (o p : Option (List ℕ)) → front_of w ≡ Ok (Some (f, rest))
    → Answered now nonce (message_of f) mark next o p → Moves now nonce (suc n) n w rest mark next o p
moves_frame now nonce n w rest f mark next o p front answered = record {
  messages = answered.message ∷ [];
  leads = λ more. course_frame n w rest more f (Ok answered.message) front answered.is;
  text = answered.text;
  each = each_one now nonce mark answered.message next answered.text answered.answers;
  written = answered.written;
}

-- one move after another
pub moves_on : (now : Start) (nonce k l m : ℕ) (u v w piece : List ℕ) (a b c : TipMark) (o p q : Option (List ℕ))
    → Moves now nonce k l u v a b o p → Moves now nonce l m (v ++ piece) w b c p q → Moves now nonce k m (u ++ piece) w a c o q
moves_on now nonce k l m u v w piece a b c o p q first second = record {
  messages = first.messages ++ second.messages;
  leads = leads_on k l m u v w piece first.messages second.messages first.leads second.leads;
  text = first.text ++ second.text;
  each = each_joined now nonce a b c first.messages second.messages first.text second.text first.each second.each;
  written = whole_on o p q first.text second.text first.written second.written;
}

pub moves_then : (now : Start) (nonce k l m : ℕ) (u v w : List ℕ) (a b c : TipMark) (o p q : Option (List ℕ))
    → Moves now nonce k l u v a b o p → Moves now nonce l m v w b c p q → Moves now nonce k m u w a c o q
moves_then now nonce k l m u v w a b c o p q first second =
    subst (λ (x : List ℕ). Moves now nonce k m x w a c o q) (append-nil u)
    (moves_on now nonce k l m u v w [] a b c o p q first (subst (λ (x : List ℕ). Moves now nonce l m x w b c p q) (sym (append-nil v)) second))

-- ---- ends

all_on : (now : Start) (nonce : ℕ) (mark mid : TipMark) (ms ns : List Msg) (text : List ℕ) (o p q : Option (List ℕ)) → AnswersEach now nonce mark ms mid text → Whole o p text
    → AllWritten now nonce mid ns p q → AllWritten now nonce mark (ms ++ ns) o q
all_on now nonce mark mid ms ns text o p q each whole w = record {
  last = w.last;
  text = text ++ w.text;
  each = each_joined now nonce mark mid w.last ms ns text w.text each w.each;
  whole = whole_on o p q text w.text whole w.whole;
}

some_on : (now : Start) (nonce : ℕ) (mark mid : TipMark) (ms ns : List Msg) (text : List ℕ) (o p q : Option (List ℕ)) → AnswersEach now nonce mark ms mid text → Whole o p text
    → SomeWritten now nonce mid ns p q → SomeWritten now nonce mark (ms ++ ns) o q
some_on now nonce mark mid ms ns text o p q each whole w = record {
  answered = ms ++ w.answered;
  others = w.others;
  split = ap (λ (l : List Msg). ms ++ l) w.split ∙ sym (append_assoc ms w.answered w.others);
  last = w.last;
  text = text ++ w.text;
  each = each_joined now nonce mark mid w.last ms w.answered text w.text each w.each;
  begins = beginning_on o p q text w.text whole w.begins;
}

before_on : (s : Hashes) (now : Start) (nonce : ℕ) (mark mid : TipMark) (ms ns : List Msg) (text : List ℕ) (o p q : Option (List ℕ)) → AnswersEach now nonce mark ms mid text → Whole o p text
    → WrittenBefore s now nonce mid ns p q → WrittenBefore s now nonce mark (ms ++ ns) o q
before_on s now nonce mark mid ms ns text o p q each whole w = record {
  answered = ms ++ w.answered;
  refused = w.refused;
  others = w.others;
  split = ap (λ (l : List Msg). ms ++ l) w.split ∙ sym (append_assoc ms w.answered (w.refused ∷ w.others));
  last = w.last;
  shrunk = w.shrunk;
  text = text ++ w.text;
  each = each_joined now nonce mark mid w.last ms w.answered text w.text each w.each;
  whole = whole_on o p q text w.text whole w.whole;
}

writes_on : (ending : Ending) (now : Start) (nonce : ℕ) (mark mid : TipMark) (ms ns : List Msg) (text : List ℕ) (o p q : Option (List ℕ)) → AnswersEach now nonce mark ms mid text → Whole o p text
    → Writes ending now nonce mid ns p q → Writes ending now nonce mark (ms ++ ns) o q
writes_on (Served Closed) now nonce mark mid ms ns text o p q each whole w = all_on now nonce mark mid ms ns text o p q each whole w
writes_on (Served (BadFrame fault)) now nonce mark mid ms ns text o p q each whole w = all_on now nonce mark mid ms ns text o p q each whole w
writes_on (Served (MalformedFrame fault)) now nonce mark mid ms ns text o p q each whole w = all_on now nonce mark mid ms ns text o p q each whole w
writes_on (Served ReadFault) now nonce mark mid ms ns text o p q each whole w = all_on now nonce mark mid ms ns text o p q each whole w
writes_on (Served WriteFault) now nonce mark mid ms ns text o p q each whole w = some_on now nonce mark mid ms ns text o p q each whole w
writes_on (Served Tired) now nonce mark mid ms ns text o p q each whole w = all_on now nonce mark mid ms ns text o p q each whole w
writes_on (Served NoMemory) now nonce mark mid ms ns text o p q each whole w = some_on now nonce mark mid ms ns text o p q each whole w
writes_on (Shrunk s) now nonce mark mid ms ns text o p q each whole w = before_on s now nonce mark mid ms ns text o p q each whole w

-- an end after a move, where more bytes came
pub stops_on : (now : Start) (nonce : ℕ) (ending : Ending) (k l : ℕ) (u v piece : List ℕ) (a b : TipMark) (o p q : Option (List ℕ))
    → Moves now nonce k l u v a b o p → Stops now nonce ending l (v ++ piece) b p q → Stops now nonce ending k (u ++ piece) a o q
stops_on now nonce ending k l u v piece a b o p q first second =
    let c = course l (v ++ piece) in
    let leads : course k (u ++ piece) ≡ with_messages first.messages c = first.leads piece in
    let whole : Writes ending now nonce a (first.messages ++ c.messages) o q =
    writes_on ending now nonce a b first.messages c.messages first.text o p q first.each first.written second.writes in
    let P : Course → Type 0 = λ d. Comes ending d.stop in
    let Q : Course → Type 0 = λ d. Writes ending now nonce a d.messages o q in
    record { comes = subst P (sym leads) second.comes; writes = subst Q (sym leads) whole }

pub stops_then : (now : Start) (nonce : ℕ) (ending : Ending) (k l : ℕ) (u v : List ℕ) (a b : TipMark) (o p q : Option (List ℕ))
    → Moves now nonce k l u v a b o p → Stops now nonce ending l v b p q → Stops now nonce ending k u a o q
stops_then now nonce ending k l u v a b o p q first second =
    subst (λ (x : List ℕ). Stops now nonce ending k x a o q) (append-nil u)
    (stops_on now nonce ending k l u v [] a b o p q first (subst (λ (x : List ℕ). Stops now nonce ending l x b p q) (sym (append-nil v)) second))

nothing : (now : Start) (nonce : ℕ) (mark : TipMark) (o : Option (List ℕ)) → AllWritten now nonce mark [] o o
nothing now nonce mark o = record { last = mark; text = []; each = (refl, refl); whole = whole_none o }

unwritten : (now : Start) (nonce : ℕ) (mark : TipMark) (ms : List Msg) (o : Option (List ℕ)) → SomeWritten now nonce mark ms o o
unwritten now nonce mark ms o = record {
  answered = [];
  others = ms;
  split = refl;
  last = mark;
  text = [];
  each = (refl, refl);
  begins = (0, omega arith, whole_none o);
}

-- nothing more is written
pub stops_bad : (now : Start) (nonce n : ℕ) (w : List ℕ) (fault : FrameFault) (mark : TipMark) (o : Option (List ℕ)) → front_of w ≡ Err fault
    → Stops now nonce (Served (BadFrame fault)) (suc n) w mark o o
stops_bad now nonce n w fault mark o e =
    let c = course_bad n w fault e in
    let Q : Course → Type 0 = λ d. AllWritten now nonce mark d.messages o o in
    record { comes = ap (λ (d : Course). d.stop) c; writes = subst Q (sym c) (nothing now nonce mark o) }

pub stops_closed : (now : Start) (nonce n : ℕ) (w : List ℕ) (mark : TipMark) (o : Option (List ℕ)) → front_of w ≡ Ok None → Stops now nonce (Served Closed) (suc n) w mark o o
stops_closed now nonce n w mark o e =
    let c = course_waits n w e in
    let Q : Course → Type 0 = λ d. AllWritten now nonce mark d.messages o o in
    record { comes = ap (λ (d : Course). d.stop) c; writes = subst Q (sym c) (nothing now nonce mark o) }

pub stops_unread : (now : Start) (nonce n : ℕ) (w : List ℕ) (mark : TipMark) (o : Option (List ℕ)) → front_of w ≡ Ok None → Stops now nonce (Served ReadFault) (suc n) w mark o o
stops_unread now nonce n w mark o e =
    let c = course_waits n w e in
    let Q : Course → Type 0 = λ d. AllWritten now nonce mark d.messages o o in
    record { comes = ap (λ (d : Course). d.stop) c; writes = subst Q (sym c) (nothing now nonce mark o) }

-- as many frames were taken as may be
pub stops_full : (now : Start) (nonce : ℕ) (w : List ℕ) (mark : TipMark) (o : Option (List ℕ)) → Stops now nonce (Served Tired) 0 w mark o o
stops_full now nonce w mark o =
    let c = course_full w in
    let Q : Course → Type 0 = λ d. AllWritten now nonce mark d.messages o o in
    record { comes = ap (λ (d : Course). d.stop) c; writes = subst Q (sym c) (nothing now nonce mark o) }

-- want of memory may come anywhere
pub stops_without_memory : (now : Start) (nonce n : ℕ) (w : List ℕ) (mark : TipMark) (o : Option (List ℕ)) → Stops now nonce (Served NoMemory) n w mark o o
stops_without_memory now nonce n w mark o = record { comes = tt; writes = unwritten now nonce mark (course n w).messages o }

-- a frame that was not answered whole
fails_part : (now : Start) (nonce n : ℕ) (w rest : List ℕ) (f : Frame) (mark : TipMark) (o p : Option (List ℕ)) → front_of w ≡ Ok (Some (f, rest))
    → Fails now nonce (message_of f) mark o p → SomeWritten now nonce mark (course (suc n) w).messages o p
fails_part now nonce n w rest f mark o p front (inl same) =
    subst (SomeWritten now nonce mark (course (suc n) w).messages o) (sym same) (unwritten now nonce mark (course (suc n) w).messages o)
fails_part now nonce n w rest f mark o p front (inr b) =
    let c = course_frame_alone n w rest f (Ok b.message) front b.is in
    record {
      answered = b.message ∷ [];
      others = (course n rest).messages;
      split = ap (λ (d : Course). d.messages) c;
      last = b.next;
      text = b.text;
      each = each_one now nonce mark b.message b.next b.text b.answers;
      begins = b.begins;
    }

pub stops_frame : (now : Start) (nonce n : ℕ) (w rest : List ℕ) (f : Frame) (mark next : TipMark) (o p : Option (List ℕ)) (ending : Ending)
    → front_of w ≡ Ok (Some (f, rest)) → AnswersFrame (Err ending) now nonce (message_of f) mark next o p → Stops now nonce ending (suc n) w mark o p
stops_frame now nonce n w rest f mark next o p (Served (MalformedFrame fault)) front answers =
    let c = course_frame_alone n w rest f (Err fault) front answers.0 in
    let Q : Course → Type 0 = λ d. AllWritten now nonce mark d.messages o p in
    record {
      comes = ap (λ (d : Course). d.stop) c;
      writes = subst Q (sym c) (subst (AllWritten now nonce mark [] o) (sym answers.1) (nothing now nonce mark o));
    }
stops_frame now nonce n w rest f mark next o p (Served WriteFault) front answers = record { comes = tt; writes = fails_part now nonce n w rest f mark o p front answers }
stops_frame now nonce n w rest f mark next o p (Served NoMemory) front answers = record { comes = tt; writes = fails_part now nonce n w rest f mark o p front answers }
stops_frame now nonce n w rest f mark next o p (Served Closed) front answers = absurd answers
stops_frame now nonce n w rest f mark next o p (Served (BadFrame fault)) front answers = absurd answers
stops_frame now nonce n w rest f mark next o p (Served ReadFault) front answers = absurd answers
stops_frame now nonce n w rest f mark next o p (Served Tired) front answers = absurd answers
stops_frame now nonce n w rest f mark next o p (Shrunk s) front answers =
    let c = course_frame_alone n w rest f (Ok answers.0.0) front answers.0.1 in
    record {
      comes = tt;
      writes = record {
        answered = [];
        refused = answers.0.0;
        others = (course n rest).messages;
        split = ap (λ (d : Course). d.messages) c;
        last = mark;
        shrunk = answers.1;
        text = [];
        each = (refl, refl);
        whole = subst (λ (x : Option (List ℕ)). Whole o x []) (sym answers.2) (whole_none o);
      };
    }

-- ---- the frames that wait

pub finds_stops : (now : Start) (nonce k : ℕ) (w new : List ℕ) (mark : TipMark) (o : Option (List ℕ)) (ending : Ending) → 1 ≤ k → FindsFrame (Err ending) w new
    → Stops now nonce ending k w mark o o
finds_stops now nonce zero w new mark o ending some finds = absurd (omega arith)
finds_stops now nonce (suc n) w new mark o (Served (BadFrame fault)) some finds = stops_bad now nonce n w fault mark o finds
finds_stops now nonce (suc n) w new mark o (Served NoMemory) some finds = stops_without_memory now nonce (suc n) w mark o
finds_stops now nonce (suc n) w new mark o (Served Closed) some finds = absurd finds
finds_stops now nonce (suc n) w new mark o (Served (MalformedFrame fault)) some finds = absurd finds
finds_stops now nonce (suc n) w new mark o (Served ReadFault) some finds = absurd finds
finds_stops now nonce (suc n) w new mark o (Served WriteFault) some finds = absurd finds
finds_stops now nonce (suc n) w new mark o (Served Tired) some finds = absurd finds
finds_stops now nonce (suc n) w new mark o (Shrunk s) some finds = absurd finds

pub frame_stops : (now : Start) (nonce k : ℕ) (w rest : List ℕ) (f : Frame) (mark next : TipMark) (o p : Option (List ℕ)) (ending : Ending) → 1 ≤ k
    → front_of w ≡ Ok (Some (f, rest)) → AnswersFrame (Err ending) now nonce (message_of f) mark next o p → Stops now nonce ending k w mark o p
frame_stops now nonce zero w rest f mark next o p ending some front answers = absurd (omega arith)
frame_stops now nonce (suc n) w rest f mark next o p ending some front answers = stops_frame now nonce n w rest f mark next o p ending front answers

pub frame_moves : (now : Start) (nonce k l : ℕ) (w rest : List ℕ) (f : Frame) (mark next : TipMark) (o p : Option (List ℕ)) → k ≡ l + 1 → front_of w ≡ Ok (Some (f, rest))
    → Answered now nonce (message_of f) mark next o p → Moves now nonce k l w rest mark next o p
frame_moves now nonce k l w rest f mark next o p one front answered =
    let here : suc l ≡ k = omega (arith, one) in
    subst (λ (n : ℕ). Moves now nonce n l w rest mark next o p) here (moves_frame now nonce l w rest f mark next o p front answered)

pub tired_stops : (now : Start) (nonce k l : ℕ) (u w : List ℕ) (a b : TipMark) (o p : Option (List ℕ)) → l ≡ 0 → Moves now nonce k l u w a b o p
    → Stops now nonce (Served Tired) k u a o p
tired_stops now nonce k l u w a b o p none moves =
    let last = subst (λ (n : ℕ). Moves now nonce k n u w a b o p) none moves in
    stops_then now nonce (Served Tired) k 0 u w a b o p p last (stops_full now nonce w b p)

-- ---- what the frames that wait may lead to

pub inside_ends : (ending : Ending) (ended : Bool) (left : Option (List ℕ)) → EndsInside ending → EndsOf ending ended left
inside_ends (Served outcome) ended left inside = plain_ends outcome ended left inside
inside_ends (Shrunk s) ended left inside = tt

pub inside_counts : (ending : Ending) (reads reads_after writes writes_after : ℕ) → EndsInside ending → reads_after ≡ reads → CountsSends (Err ending) writes writes_after
    → CountsOf ending reads reads_after writes writes_after
inside_counts (Served Closed) r r2 w w2 inside same count = absurd inside
inside_counts (Served (BadFrame fault)) r r2 w w2 inside same count = (same, count)
inside_counts (Served (MalformedFrame fault)) r r2 w w2 inside same count = (same, count)
inside_counts (Served ReadFault) r r2 w w2 inside same count = absurd inside
inside_counts (Served WriteFault) r r2 w w2 inside same count = (same, count)
inside_counts (Served Tired) r r2 w w2 inside same count = (same, count)
inside_counts (Served NoMemory) r r2 w w2 inside same count = (same, count)
inside_counts (Shrunk s) r r2 w w2 inside same count = (same, count)

pub finds_inside : (ending : Ending) (w new : List ℕ) → FindsFrame (Err ending) w new → EndsInside ending
finds_inside (Served Closed) w new finds = absurd finds
finds_inside (Served (BadFrame fault)) w new finds = tt
finds_inside (Served (MalformedFrame fault)) w new finds = tt
finds_inside (Served ReadFault) w new finds = absurd finds
finds_inside (Served WriteFault) w new finds = tt
finds_inside (Served Tired) w new finds = tt
finds_inside (Served NoMemory) w new finds = tt
finds_inside (Shrunk s) w new finds = tt

pub frame_inside : (ending : Ending) (now : Start) (nonce : ℕ) (read : Result Msg Malformed) (mark next : TipMark) (o p : Option (List ℕ)) → AnswersFrame (Err ending) now nonce read mark next o p → EndsInside ending
frame_inside (Served Closed) now nonce read mark next o p answers = absurd answers
frame_inside (Served (BadFrame fault)) now nonce read mark next o p answers = tt
frame_inside (Served (MalformedFrame fault)) now nonce read mark next o p answers = tt
frame_inside (Served ReadFault) now nonce read mark next o p answers = absurd answers
frame_inside (Served WriteFault) now nonce read mark next o p answers = tt
frame_inside (Served Tired) now nonce read mark next o p answers = tt
frame_inside (Served NoMemory) now nonce read mark next o p answers = tt
frame_inside (Shrunk s) now nonce read mark next o p answers = tt

-- a frame was answered with the time and the nonce that were handed in
pub same_moment : (r : Result (Unit {0}) Ending) (time now : Start) (number nonce : ℕ) (read : Result Msg Malformed) (mark next : TipMark) (o p : Option (List ℕ)) → time ≡ now → number ≡ nonce
    → AnswersFrame r time number read mark next o p → AnswersFrame r now nonce read mark next o p
same_moment r time now number nonce read mark next o p one two answers =
    subst (λ (n : ℕ). AnswersFrame r now n read mark next o p) two (subst (λ (t : Start). AnswersFrame r t number read mark next o p) one answers)

-- one frame more is taken and answered, at the moment that was told
pub frame_taken : (now time : Start) (nonce number k l : ℕ) (u v w : List ℕ) (f : Frame) (found : Option Frame) (a b c : TipMark) (o p q : Option (List ℕ)) → 1 ≤ l → found ≡ Some f
    → FindsFrame (Ok found) v w → Moves now nonce k l u v a b o p → (time ≡ now) × (number ≡ nonce) → AnswersFrame (Ok tt) time number (message_of f) b c p q
    → Moves now nonce k (l - 1) u w a c o q
frame_taken now time nonce number k l u v w f found a b c o p q room is finds moves moment answers =
    let front = subst (λ (x : Option Frame). FindsFrame (Ok x) v w) is finds in
    let one : l ≡ (l - 1) + 1 = omega (arith, room) in
    moves_then now nonce k l (l - 1) u v w a b c o p q moves
    (frame_moves now nonce l (l - 1) v w f b c p q one front (same_moment (Ok tt) time now number nonce (message_of f) b c p q moment.0 moment.1 answers))

-- ---- the connection as a whole

-- before the first byte
pub midway_begins : (now : Start) (nonce : ℕ) (bytes : List ℕ) (left o : Option (List ℕ)) (k : ℕ) (w : List ℕ) (mark : TipMark) → left ≡ Some bytes → k ≡ most_frames → w ≡ [] → mark ≡ NotMet
    → Midway now nonce bytes left k w mark o o
midway_begins now nonce bytes left o k w mark told most none same =
    let first : Midway now nonce bytes (Some bytes) most_frames [] NotMet o o = record { taken = []; rest = refl; moves = moves_none now nonce most_frames [] NotMet o } in
    let a = subst (λ (x : Option (List ℕ)). Midway now nonce bytes x most_frames [] NotMet o o) (sym told) first in
    let b = subst (λ (n : ℕ). Midway now nonce bytes left n [] NotMet o o) (sym most) a in
    let c = subst (λ (x : List ℕ). Midway now nonce bytes left k x NotMet o o) (sym none) b in
    subst (λ (x : TipMark). Midway now nonce bytes left k w x o o) (sym same) c

-- a turn of the loop: a piece was read, and its frames were answered
pub midway_turn : (now : Start) (nonce : ℕ) (bytes piece : List ℕ) (left between left_after : Option (List ℕ)) (k l : ℕ) (v w : List ℕ) (a b : TipMark) (o p p_read q : Option (List ℕ))
    → Midway now nonce bytes left k v a o p → left ≡ with_front piece between → left_after ≡ between → p_read ≡ p → Moves now nonce k l (v ++ piece) w a b p_read q
    → Midway now nonce bytes left_after l w b o q
midway_turn now nonce bytes piece left between left_after k l v w a b o p p_read q midway read kept same moves = record {
  taken = midway.taken ++ piece;
  rest = midway.rest ∙ ap (with_front midway.taken) (read ∙ ap (with_front piece) (sym kept)) ∙ front_joined left_after midway.taken piece;
  moves = moves_on now nonce most_frames k l midway.taken v w piece NotMet a b o p q midway.moves
      (subst (λ (x : Option (List ℕ)). Moves now nonce k l (v ++ piece) w a b x q) same moves);
}

-- or serving ended there
pub midway_last : (now : Start) (nonce : ℕ) (bytes piece : List ℕ) (left between left_after : Option (List ℕ)) (k : ℕ) (v : List ℕ) (a : TipMark) (o p p_read q : Option (List ℕ)) (ending : Ending)
    → Midway now nonce bytes left k v a o p → left ≡ with_front piece between → left_after ≡ between → p_read ≡ p → Stops now nonce ending k (v ++ piece) a p_read q
    → IsServedGrowing now nonce ending bytes left_after o q
midway_last now nonce bytes piece left between left_after k v a o p p_read q ending midway read kept same stops =
    let whole = stops_on now nonce ending most_frames k midway.taken v piece NotMet a o p q midway.moves
    (subst (λ (x : Option (List ℕ)). Stops now nonce ending k (v ++ piece) a x q) same stops) in
    record {
      taken = midway.taken ++ piece;
      rest = midway.rest ∙ ap (with_front midway.taken) (read ∙ ap (with_front piece) (sym kept)) ∙ front_joined left_after midway.taken piece;
      comes = whole.comes;
      writes = whole.writes;
    }

-- the source ended, or failed, while no whole frame waits
pub served_so_far : (now : Start) (nonce : ℕ) (bytes piece : List ℕ) (left left_after : Option (List ℕ)) (k : ℕ) (v : List ℕ) (mark : TipMark) (o p q : Option (List ℕ)) (ending : Ending)
    → Midway now nonce bytes left k v mark o p → left ≡ with_front piece left_after → piece ≡ [] → q ≡ p → 1 ≤ k
    → ((n : ℕ) → Stops now nonce ending (suc n) v mark p p) → IsServedGrowing now nonce ending bytes left_after o q
served_so_far now nonce bytes piece left left_after zero v mark o p q ending midway read none same some ends = absurd (omega arith)
served_so_far now nonce bytes piece left left_after (suc n) v mark o p q ending midway read none same some ends =
    let here : v ≡ v ++ piece = sym (append-nil v) ∙ ap (λ (t : List ℕ). v ++ t) (sym none) in
    subst (λ (r : Option (List ℕ)). IsServedGrowing now nonce ending bytes left_after o r) (sym same)
    (midway_last now nonce bytes piece left left_after left_after (suc n) v mark o p p p ending midway read refl refl
    (subst (λ (x : List ℕ). Stops now nonce ending (suc n) x mark p p) here (ends n)))

-- the moment that was handed in
pub moves_at : (time now : Start) (number nonce k l : ℕ) (v w : List ℕ) (a b : TipMark) (o p : Option (List ℕ)) → time ≡ now → number ≡ nonce
    → Moves time number k l v w a b o p → Moves now nonce k l v w a b o p
moves_at time now number nonce k l v w a b o p one two moves =
    subst (λ (n : ℕ). Moves now n k l v w a b o p) two (subst (λ (t : Start). Moves t number k l v w a b o p) one moves)

pub stops_at : (time now : Start) (number nonce k : ℕ) (v : List ℕ) (ending : Ending) (a : TipMark) (o p : Option (List ℕ)) → time ≡ now → number ≡ nonce
    → Stops time number ending k v a o p → Stops now nonce ending k v a o p
stops_at time now number nonce k v ending a o p one two stops =
    subst (λ (n : ℕ). Stops now n ending k v a o p) two (subst (λ (t : Start). Stops t number ending k v a o p) one stops)

pub at_moment : (z now : Start) (nonce : ℕ) (bytes : List ℕ) (left : Option (List ℕ)) (k : ℕ) (v : List ℕ) (a : TipMark) (o p : Option (List ℕ)) → z ≡ now
    → Midway z nonce bytes left k v a o p → Midway now nonce bytes left k v a o p
at_moment z now nonce bytes left k v a o p same midway = subst (λ (y : Start). Midway y nonce bytes left k v a o p) same midway

-- so serving ends where no more comes
pub served_ends : (told : Option (List ℕ)) (z now : Start) (nonce : ℕ) (piece : List ℕ) (left left_after : Option (List ℕ)) (k : ℕ) (v : List ℕ) (mark : TipMark) (o p q : Option (List ℕ)) (ending : Ending) → z ≡ now
    → IfSome told (λ bytes. Midway z nonce bytes left k v mark o p) → left ≡ with_front piece left_after → piece ≡ [] → q ≡ p → 1 ≤ k → ((n : ℕ) → Stops now nonce ending (suc n) v mark p p)
    → IfSome told (λ bytes. IsServedGrowing now nonce ending bytes left_after o q)
served_ends told z now nonce piece left left_after k v mark o p q ending same midway read none kept some ends =
    if_some_on told (λ bytes. Midway z nonce bytes left k v mark o p) (λ bytes. IsServedGrowing now nonce ending bytes left_after o q)
    (λ bytes is way. served_so_far now nonce bytes piece left left_after k v mark o p q ending (at_moment z now nonce bytes left k v mark o p same way) read none kept some ends) midway

-- and where a piece ends it
pub served_last : (told : Option (List ℕ)) (z now time : Start) (nonce number : ℕ) (piece : List ℕ) (left between left_after : Option (List ℕ)) (k : ℕ) (v : List ℕ) (mark : TipMark) (o p p_read q : Option (List ℕ)) (ending : Ending) → z ≡ now
    → IfSome told (λ bytes. Midway z nonce bytes left k v mark o p) → left ≡ with_front piece between → left_after ≡ between → p_read ≡ p → time ≡ z → number ≡ nonce
    → Stops time number ending k (v ++ piece) mark p_read q → IfSome told (λ bytes. IsServedGrowing now nonce ending bytes left_after o q)
served_last told z now time nonce number piece left between left_after k v mark o p p_read q ending same midway read kept wrote one two stops =
    if_some_on told (λ bytes. Midway z nonce bytes left k v mark o p) (λ bytes. IsServedGrowing now nonce ending bytes left_after o q)
    (λ bytes is way. midway_last now nonce bytes piece left between left_after k v mark o p p_read q ending (at_moment z now nonce bytes left k v mark o p same way) read kept wrote
    (stops_at time now number nonce k (v ++ piece) ending mark p_read q (one ∙ same) two stops)) midway

-- and where it goes on behind a piece
pub midway_goes : (told : Option (List ℕ)) (now time : Start) (nonce number : ℕ) (piece : List ℕ) (left between left_after : Option (List ℕ)) (k l : ℕ) (v w : List ℕ) (a b : TipMark) (o p p_read q : Option (List ℕ))
    → IfSome told (λ bytes. Midway now nonce bytes left k v a o p) → left ≡ with_front piece between → left_after ≡ between → p_read ≡ p → time ≡ now → number ≡ nonce
    → Moves time number k l (v ++ piece) w a b p_read q → IfSome told (λ bytes. Midway now nonce bytes left_after l w b o q)
midway_goes told now time nonce number piece left between left_after k l v w a b o p p_read q midway read kept same one two moves =
    if_some_on told (λ bytes. Midway now nonce bytes left k v a o p) (λ bytes. Midway now nonce bytes left_after l w b o q)
    (λ bytes is way. midway_turn now nonce bytes piece left between left_after k l v w a b o p p_read q way read kept same (moves_at time now number nonce k l (v ++ piece) w a b p_read q one two moves)) midway
