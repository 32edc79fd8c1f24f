-- What is written for messages, and how the steps of serving follow one another.
use Rattle.std.proofs.Common.{◌≡◌, ℕ, ℤ, suc, ◌+◌, false, List, [], ◌∷◌, ◌++◌, length, take, Option, Some, None, Result, Ok, Err, refl, sym, ap, ◌∙◌, subst, arith, append_assoc, length-append}
use Rattle.std.specs.Prelude.{◌||◌}
use Rattle.std.proofs.lemmas.List.{append-nil, take_all, take-append-le}
use Rattle.std.proofs.lemmas.List.Concat.{flat_map-append}
use Rattle.cf_bytes.specs.Outside.{with_more}
use Rattle.cf_conn.specs.Source.{with_front}
use Rattle.cf_block.specs.declared.tx.Block.{Block}
use Rattle.cf_frame.specs.declared.frame.Frame.{Frame}
use Rattle.cf_frame.specs.declared.frame.FrameFault.{FrameFault}
use Rattle.cf_frame.specs.Frame.{spelling}
use Rattle.cf_frame.specs.Reading.{front_of}
use Rattle.cf_msg.specs.declared.msg.Msg.{Msg}
use Rattle.cf_msg.specs.declared.msg.Malformed.{Malformed}
use Rattle.cf_msg.specs.Message.{frame_of, is_version}
use Rattle.cf_msg.specs.Reading.{message_of}
use Rattle.cf_chain.specs.Serve.{replies, replies_to}
use Rattle.cf_server.specs.declared.answering.Serving.{Serving}
use Rattle.cf_server.specs.declared.outcome.ServeEnd.{ServeEnd}
use Rattle.cf_server.specs.declared.outcome.ServeEnd.TheVariants.{Closed, BadFrame, Malformed as MalformedFrame, ReadFault, WriteFault, Tired, NoMemory}
use Rattle.cf_server.specs.Serving.{Course, Stop, Waits, stops, course, most_frames, text_of, Whole, Beginning, ComesAt, Writes, IsServed}
use Rattle.cf_server.specs.Taking.{AnswersFrame, Answered, Moves, Stops, Midway, served_on, served_after, text_for, text_on, frame_text, with_messages}
use Rattle.cf_server.proofs.Courses.{course_full, course_waits, course_bad, course_frame, course_frame_alone, messages_joined}

-- ---- bytes that are told

more_none : (o : Option (List ℕ)) → o ≡ with_more o []
more_none None = refl
more_none (Some bytes) = ap Some (sym (append-nil bytes))

more_joined : (o : Option (List ℕ)) (a b : List ℕ) → with_more (with_more o a) b ≡ with_more o (a ++ b)
more_joined None a b = refl
more_joined (Some bytes) a b = ap Some (append_assoc bytes a b)

front_joined : (o : Option (List ℕ)) (a b : List ℕ) → with_front a (with_front b o) ≡ with_front (a ++ b) o
front_joined None a b = refl
front_joined (Some bytes) a b = ap Some (sym (append_assoc a b bytes))

-- ---- wholes and beginnings

pub whole_none : (o : Option (List ℕ)) → Whole o o []
whole_none o = more_none o

pub whole_on : (o p q : Option (List ℕ)) (a b : List ℕ) → Whole o p a → Whole p q b → Whole o q (a ++ b)
whole_on o p q a b first second = second ∙ ap (λ r. with_more r b) first ∙ more_joined o a b

take_past : (a b : List ℕ) (n : ℕ) → take (length a + n) (a ++ b) ≡ a ++ take n b
take_past [] b n = ap (λ k. take k b) (omega arith)
take_past (x ∷ xs) b n = let e : length (x ∷ xs) + n ≡ suc (length xs + n) = omega arith in rw e (ap (λ (ys : List ℕ). x ∷ ys) (take_past xs b n))

-- a whole and then a beginning
pub beginning_on : (o p q : Option (List ℕ)) (a b : List ℕ) → Whole o p a → Beginning p q b → Beginning o q (a ++ b)
beginning_on o p q a b first second = (
  length a + second.0,
  omega (arith, length-append a b, second.1),
  whole_on o p q a (take second.0 b) first second.2 ∙ ap (with_more o) (sym (take_past a b second.0)),
)

-- all of it is a beginning, and so is a beginning of its front
pub beginning_whole : (o p : Option (List ℕ)) (a : List ℕ) → Whole o p a → Beginning o p a
beginning_whole o p a whole = (length a, omega arith, whole ∙ ap (with_more o) (sym (take_all (length a) a (omega arith))))

pub beginning_more : (o p : Option (List ℕ)) (a b : List ℕ) → Beginning o p a → Beginning o p (a ++ b)
beginning_more o p a b first = (
  first.0,
  omega (arith, length-append a b, first.1),
  first.2 ∙ ap (with_more o) (sym (take-append-le first.0 a b first.1)),
)

pub beginning_none : (o : Option (List ℕ)) (a : List ℕ) → Beginning o o a
beginning_none o a = (0, omega arith, more_none o)

-- ---- texts

pub text-append : (a b : List Msg) → text_of (a ++ b) ≡ text_of a ++ text_of b
unfolding text_of
text-append a b = flat_map-append (λ m. spelling (frame_of m)) a b

pub text-nil : text_of [] ≡ []
unfolding text_of
text-nil = refl

pub text-cons : (m : Msg) (ms : List Msg) → text_of (m ∷ ms) ≡ spelling (frame_of m) ++ text_of ms
unfolding text_of
text-cons m ms = refl

pub text_on-cons : (served : Serving) (blocks : List Block) (m : Msg) (ms : List Msg) → text_on served blocks (m ∷ ms) ≡ text_for served blocks m ++ text_on (served_on served m) blocks ms
text_on-cons served blocks m ms =
    text-append (replies_to served.time served.nonce blocks served.seen m) (replies served.time served.nonce blocks (is_version m || served.seen) ms)

pub text_on-one : (served : Serving) (blocks : List Block) (m : Msg) → text_on served blocks (m ∷ []) ≡ text_for served blocks m
text_on-one served blocks m = ap text_of (append-nil (replies_to served.time served.nonce blocks served.seen m))

pub text_on-append : (served : Serving) (blocks : List Block) (a b : List Msg) → text_on served blocks (a ++ b) ≡ text_on served blocks a ++ text_on (served_after served a) blocks b
text_on-append served blocks [] b = sym (ap (λ t. t ++ text_on served blocks b) text-nil)
text_on-append served blocks (m ∷ ms) b =
    text_on-cons served blocks m (ms ++ b)
    ∙ ap (λ t. text_for served blocks m ++ t) (text_on-append (served_on served m) blocks ms b)
    ∙ sym (append_assoc (text_for served blocks m) (text_on (served_on served m) blocks ms) (text_on (served_after (served_on served m) ms) blocks b))
    ∙ ap (λ t. t ++ text_on (served_after (served_on served m) ms) blocks b) (sym (text_on-cons served blocks m ms))

served_after-append : (served : Serving) (a b : List Msg) → served_after served (a ++ b) ≡ served_after (served_after served a) b
served_after-append served [] b = refl
served_after-append served (m ∷ ms) b = served_after-append (served_on served m) ms b

-- ---- moves

pub moves_none : (blocks : List Block) (n : ℕ) (w : List ℕ) (s : Serving) (o : Option (List ℕ)) → Moves blocks n n w w s s o o
moves_none blocks n w s o = record { messages = []; leads = λ more. refl; served = refl; written = more_none o ∙ ap (with_more o) (sym text-nil) }

-- a frame was taken and answered
pub moves_frame : (blocks : List Block) (n : ℕ) (w rest : List ℕ) (f : Frame) (s t : Serving) (o p : Option (List ℕ)) → front_of w ≡ Ok (Some (f, rest))
    → Answered blocks (message_of f) s t o p → Moves blocks (suc n) n w rest s t o p
moves_frame blocks n w rest f s t o p front answered = record {
  messages = answered.message ∷ [];
  leads = λ more. course_frame n w rest more f (Ok answered.message) front answered.is;
  served = answered.served;
  written = answered.written ∙ ap (with_more o) (sym (text_on-one s blocks answered.message));
}

-- what leads on leads to the same end
pub leads_on : (k l m : ℕ) (u v w piece : List ℕ) (a b : List Msg)
    → ((more : List ℕ) → course k (u ++ more) ≡ with_messages a (course l (v ++ more)))
    → ((more : List ℕ) → course l ((v ++ piece) ++ more) ≡ with_messages b (course m (w ++ more)))
    → (more : List ℕ) → course k ((u ++ piece) ++ more) ≡ with_messages (a ++ b) (course m (w ++ more))
leads_on k l m u v w piece a b first second more =
    ap (course k) (append_assoc u piece more)
    ∙ first (piece ++ more)
    ∙ ap (λ bytes. with_messages a (course l bytes)) (sym (append_assoc v piece more))
    ∙ ap (with_messages a) (second more)
    ∙ messages_joined a b (course m (w ++ more))

-- one move after another
pub moves_on : (blocks : List Block) (k l m : ℕ) (u v w piece : List ℕ) (r s t : Serving) (o p q : Option (List ℕ))
    → Moves blocks k l u v r s o p → Moves blocks l m (v ++ piece) w s t p q → Moves blocks k m (u ++ piece) w r t o q
moves_on blocks k l m u v w piece r s t o p q first second =
    let split : text_on r blocks (first.messages ++ second.messages) ≡ text_on r blocks first.messages ++ text_on s blocks second.messages =
    text_on-append r blocks first.messages second.messages ∙ ap (λ x. text_on r blocks first.messages ++ text_on x blocks second.messages) (sym first.served) in
    record {
      messages = first.messages ++ second.messages;
      leads = leads_on k l m u v w piece first.messages second.messages first.leads second.leads;
      served = second.served ∙ ap (λ x. served_after x second.messages) first.served ∙ sym (served_after-append r first.messages second.messages);
      written = whole_on o p q (text_on r blocks first.messages) (text_on s blocks second.messages) first.written second.written ∙ ap (with_more o) (sym split);
    }

pub moves_then : (blocks : List Block) (k l m : ℕ) (u v w : List ℕ) (r s t : Serving) (o p q : Option (List ℕ))
    → Moves blocks k l u v r s o p → Moves blocks l m v w s t p q → Moves blocks k m u w r t o q
moves_then blocks k l m u v w r s t o p q first second =
    subst (λ (x : List ℕ). Moves blocks k m x w r t o q) (append-nil u)
    (moves_on blocks k l m u v w [] r s t o p q first (subst (λ (x : List ℕ). Moves blocks l m x w s t p q) (sym (append-nil v)) second))

-- ---- ends

writes_on : (outcome : ServeEnd) (o p q : Option (List ℕ)) (a b : List ℕ) → Whole o p a → Writes outcome p q b → Writes outcome o q (a ++ b)
writes_on Closed o p q a b first second = whole_on o p q a b first second
writes_on (BadFrame fault) o p q a b first second = whole_on o p q a b first second
writes_on (MalformedFrame fault) o p q a b first second = whole_on o p q a b first second
writes_on ReadFault o p q a b first second = whole_on o p q a b first second
writes_on WriteFault o p q a b first second = beginning_on o p q a b first second
writes_on Tired o p q a b first second = whole_on o p q a b first second
writes_on NoMemory o p q a b first second = beginning_on o p q a b first second

-- an end after a move, where more bytes came
pub stops_on : (blocks : List Block) (outcome : ServeEnd) (k l : ℕ) (u v piece : List ℕ) (r s : Serving) (o p q : Option (List ℕ))
    → Moves blocks k l u v r s o p → Stops blocks outcome l (v ++ piece) s p q → Stops blocks outcome k (u ++ piece) r o q
stops_on blocks outcome k l u v piece r s o p q first second =
    let c = course l (v ++ piece) in
    let leads : course k (u ++ piece) ≡ with_messages first.messages c = first.leads piece in
    let split : text_on r blocks (first.messages ++ c.messages) ≡ text_on r blocks first.messages ++ text_on s blocks c.messages =
    text_on-append r blocks first.messages c.messages ∙ ap (λ x. text_on r blocks first.messages ++ text_on x blocks c.messages) (sym first.served) in
    let whole : Writes outcome o q (text_on r blocks first.messages ++ text_on s blocks c.messages) =
    writes_on outcome o p q (text_on r blocks first.messages) (text_on s blocks c.messages) first.written second.writes in
    let P : Course → Type 0 = λ d. ComesAt outcome d.stop in
    let Q : Course → Type 0 = λ d. Writes outcome o q (text_on r blocks d.messages) in
    record {
      comes = subst P (sym leads) second.comes;
      writes = subst Q (sym leads) (subst (Writes outcome o q) (sym split) whole);
    }

pub stops_then : (blocks : List Block) (outcome : ServeEnd) (k l : ℕ) (u v : List ℕ) (r s : Serving) (o p q : Option (List ℕ))
    → Moves blocks k l u v r s o p → Stops blocks outcome l v s p q → Stops blocks outcome k u r o q
stops_then blocks outcome k l u v r s o p q first second =
    subst (λ (x : List ℕ). Stops blocks outcome k x r o q) (append-nil u)
    (stops_on blocks outcome k l u v [] r s o p q first (subst (λ (x : List ℕ). Stops blocks outcome l x s p q) (sym (append-nil v)) second))

-- nothing more is written
pub stops_bad : (blocks : List Block) (n : ℕ) (w : List ℕ) (fault : FrameFault) (s : Serving) (o : Option (List ℕ)) → front_of w ≡ Err fault → Stops blocks (BadFrame fault) (suc n) w s o o
stops_bad blocks n w fault s o e =
    let c = course_bad n w fault e in
    let Q : Course → Type 0 = λ d. Writes (BadFrame fault) o o (text_on s blocks d.messages) in
    record { comes = ap (λ (d : Course). d.stop) c; writes = subst Q (sym c) (more_none o ∙ ap (with_more o) (sym text-nil)) }

pub stops_waits : (blocks : List Block) (n : ℕ) (w : List ℕ) (s : Serving) (o : Option (List ℕ)) (outcome : ServeEnd) → front_of w ≡ Ok None
    → ((stop : Stop) → stop ≡ Waits → ComesAt outcome stop) → ((t : List ℕ) → Whole o o t → Writes outcome o o t) → Stops blocks outcome (suc n) w s o o
stops_waits blocks n w s o outcome e comes writes =
    let c = course_waits n w e in
    let Q : Course → Type 0 = λ d. Writes outcome o o (text_on s blocks d.messages) in
    record { comes = comes (course (suc n) w).stop (ap (λ (d : Course). d.stop) c); writes = subst Q (sym c) (writes (text_on s blocks []) (more_none o ∙ ap (with_more o) (sym text-nil))) }

-- as many frames were taken as may be
pub stops_full : (blocks : List Block) (w : List ℕ) (s : Serving) (o : Option (List ℕ)) → Stops blocks Tired 0 w s o o
stops_full blocks w s o =
    let c = course_full w in
    let Q : Course → Type 0 = λ d. Writes Tired o o (text_on s blocks d.messages) in
    record { comes = ap (λ (d : Course). d.stop) c; writes = subst Q (sym c) (more_none o ∙ ap (with_more o) (sym text-nil)) }

-- want of memory may come anywhere
pub stops_without_memory : (blocks : List Block) (n : ℕ) (w : List ℕ) (s : Serving) (o : Option (List ℕ)) → Stops blocks NoMemory n w s o o
stops_without_memory blocks n w s o = record { comes = tt; writes = beginning_none o (text_on s blocks (course n w).messages) }

-- a frame that was not answered whole
frame_begins : (blocks : List Block) (n : ℕ) (w rest : List ℕ) (f : Frame) (read : Result Msg Malformed) (s : Serving) (o p : Option (List ℕ)) → front_of w ≡ Ok (Some (f, rest)) → message_of f ≡ read
    → Beginning o p (frame_text s blocks read) → Beginning o p (text_on s blocks (course (suc n) w).messages)
frame_begins blocks n w rest f (Ok m) s o p front is begins =
    let c = course_frame_alone n w rest f (Ok m) front is in
    let Q : Course → Type 0 = λ d. Beginning o p (text_on s blocks d.messages) in
    subst Q (sym c) (subst (Beginning o p) (sym (text_on-cons s blocks m (course n rest).messages)) (beginning_more o p (text_for s blocks m) (text_on (served_on s m) blocks (course n rest).messages) begins))
frame_begins blocks n w rest f (Err fault) s o p front is begins =
    let c = course_frame_alone n w rest f (Err fault) front is in
    let Q : Course → Type 0 = λ d. Beginning o p (text_on s blocks d.messages) in
    subst Q (sym c) (subst (Beginning o p) (sym text-nil) begins)

pub stops_frame : (blocks : List Block) (n : ℕ) (w rest : List ℕ) (f : Frame) (s t : Serving) (o p : Option (List ℕ)) (outcome : ServeEnd) → front_of w ≡ Ok (Some (f, rest))
    → AnswersFrame (Err outcome) blocks (message_of f) s t o p → Stops blocks outcome (suc n) w s o p
stops_frame blocks n w rest f s t o p (MalformedFrame fault) front answers =
    let c = course_frame_alone n w rest f (Err fault) front answers.0 in
    let Q : Course → Type 0 = λ d. Writes (MalformedFrame fault) o p (text_on s blocks d.messages) in
    record { comes = ap (λ (d : Course). d.stop) c; writes = subst Q (sym c) (answers.1 ∙ more_none o ∙ ap (with_more o) (sym text-nil)) }
stops_frame blocks n w rest f s t o p WriteFault front answers = record { comes = tt; writes = frame_begins blocks n w rest f (message_of f) s o p front refl answers }
stops_frame blocks n w rest f s t o p NoMemory front answers = record { comes = tt; writes = frame_begins blocks n w rest f (message_of f) s o p front refl answers }
stops_frame blocks n w rest f s t o p Closed front answers = absurd answers
stops_frame blocks n w rest f s t o p (BadFrame fault) front answers = absurd answers
stops_frame blocks n w rest f s t o p ReadFault front answers = absurd answers
stops_frame blocks n w rest f s t o p Tired front answers = absurd answers

-- ---- the connection as a whole

pub midway_start : (blocks : List Block) (s : Serving) (bytes : List ℕ) (o : Option (List ℕ)) → Midway blocks s bytes (Some bytes) most_frames [] s o o
midway_start blocks s bytes o = record { taken = []; rest = refl; moves = moves_none blocks most_frames [] s o }

-- a piece was read, and its frames were answered
pub midway_on : (blocks : List Block) (start : Serving) (bytes piece : List ℕ) (left left_after : Option (List ℕ)) (k l : ℕ) (v w : List ℕ) (s t : Serving) (o p q : Option (List ℕ))
    → Midway blocks start bytes left k v s o p → left ≡ with_front piece left_after → Moves blocks k l (v ++ piece) w s t p q → Midway blocks start bytes left_after l w t o q
midway_on blocks start bytes piece left left_after k l v w s t o p q midway read moves = record {
  taken = midway.taken ++ piece;
  rest = midway.rest ∙ ap (with_front midway.taken) read ∙ front_joined left_after midway.taken piece;
  moves = moves_on blocks most_frames k l midway.taken v w piece start s t o p q midway.moves moves;
}

-- or serving ended
pub midway_stops : (blocks : List Block) (now : ℤ) (nonce : ℕ) (bytes piece : List ℕ) (left left_after : Option (List ℕ)) (k : ℕ) (v : List ℕ) (s : Serving) (o p q : Option (List ℕ)) (outcome : ServeEnd)
    → Midway blocks (record { time = now; nonce = nonce; seen = false }) bytes left k v s o p → left ≡ with_front piece left_after → Stops blocks outcome k (v ++ piece) s p q
    → IsServed now nonce blocks outcome bytes left_after o q
midway_stops blocks now nonce bytes piece left left_after k v s o p q outcome midway read stops =
    let whole = stops_on blocks outcome most_frames k midway.taken v piece (record { time = now; nonce = nonce; seen = false }) s o p q midway.moves stops in
    record {
      taken = midway.taken ++ piece;
      rest = midway.rest ∙ ap (with_front midway.taken) read ∙ front_joined left_after midway.taken piece;
      comes = whole.comes;
      writes = whole.writes;
    }
