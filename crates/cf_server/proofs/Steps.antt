-- The steps of serving, one by one.
use Rattle.std.proofs.Common.{◌≡◌, ℕ, ℤ, zero, suc, ◌+◌, ◌-◌, ◌*◌, ◌<◌, ◌≤◌, Bool, false, List, [], ◌∷◌, ◌++◌, length, take, drop, Option, Some, None, Result, Ok, Err, refl, sym, ap, ◌∙◌, subst, arith, inl, inr, get_or, length-append, append_assoc}
use Rattle.std.specs.Prelude.{IfSome}
use Rattle.std.specs.Result.{IsErrAnd}
use Rattle.std.proofs.lemmas.Bool.{cases_lt}
use Rattle.std.proofs.lemmas.List.{append-nil, map-append, take_more, take-append-drop}
use Rattle.cf_bytes.specs.Outside.{with_more}
use Rattle.cf_block.specs.declared.tx.Block.{Block}
use Rattle.cf_frame.specs.declared.frame.Frame.{Frame}
use Rattle.cf_frame.specs.Frame.{spelling}
use Rattle.cf_frame.specs.Reading.{front_of}
use Rattle.cf_frame.proofs.Relations.{waits_few}
use Rattle.cf_conn.specs.Source.{with_front}
use Rattle.cf_msg.specs.declared.msg.Msg.{Msg}
use Rattle.cf_msg.specs.declared.msg.Malformed.{Malformed}
use Rattle.cf_msg.specs.Message.{frame_of}
use Rattle.cf_msg.specs.Reading.{message_of as message_in}
use Rattle.cf_chain.specs.Serve.{replies_to}
use Rattle.cf_server.specs.declared.answering.Serving.{Serving}
use Rattle.cf_server.specs.declared.reply.Reply.{Reply}
use Rattle.cf_server.specs.declared.reply.Reply.TheVariants.{OwnVersion, OwnVerack, PongOf, HeadersOf, BlockAt, CfilterAt, CfheadersOf, CfcheckptOf}
use Rattle.cf_server.specs.declared.outcome.ServeEnd.{ServeEnd}
use Rattle.cf_server.specs.declared.outcome.ServeEnd.TheVariants.{Closed, BadFrame, Malformed as MalformedFrame, ReadFault, WriteFault, Tired, NoMemory}
use Rattle.cf_server.specs.Replies.{message_of, messages_of, Adds}
use Rattle.cf_server.specs.Serving.{Stop, Waits, most_frames, text_of, Whole, Beginning, ComesAt, Writes, IsServed, Counts, Ends}
use Rattle.cf_server.specs.Taking.{Sends, AnswersFrame, Answered, CountsWrites, FindsFrame, Moves, Stops, Midway, ComesInside, served_on, text_for, frame_text}
use Rattle.cf_server.proofs.Texts.{text-append, text-cons, text-nil, whole_none, whole_on, beginning_on, beginning_more, beginning_whole, moves_frame, moves_then, stops_then, stops_bad, stops_full, stops_frame, stops_waits, stops_without_memory, midway_start, midway_on, midway_stops}

-- what holds of an error holds of a result that is this error
pub by_err : {T E : Type 0} (P : Result T E → Type 0) (r : Result T E) (e : E) → IsErrAnd r (λ y. y ≡ e) → P (Err e) → P r
by_err P (Ok x) e h p = absurd h
by_err {E = E} P (Err y) e h p = subst (λ (z : E). P (Err z)) (sym h) p

-- ---- replies, one after another

one_text : (m : Msg) → text_of (m ∷ []) ≡ spelling (frame_of m)
one_text m = text-cons m [] ∙ ap (λ t. spelling (frame_of m) ++ t) text-nil ∙ append-nil (spelling (frame_of m))

pub reply_text_on : (served : Serving) (blocks : List Block) (replies : List Reply) (i : ℕ) (d : Reply) → i < length replies
    → text_of (messages_of served blocks (take (i + 1) replies)) ≡ text_of (messages_of served blocks (take i replies)) ++ spelling (frame_of (message_of served blocks (get_or replies i d)))
reply_text_on served blocks replies i d lt =
    let reply : Reply = get_or replies i d in
    ap (λ (rs : List Reply). text_of (messages_of served blocks rs)) (take_more replies i d lt)
    ∙ ap text_of (map-append (message_of served blocks) (take i replies) (reply ∷ []))
    ∙ text-append (messages_of served blocks (take i replies)) (message_of served blocks reply ∷ [])
    ∙ ap (λ t. text_of (messages_of served blocks (take i replies)) ++ t) (one_text (message_of served blocks reply))

reply_text_split : (served : Serving) (blocks : List Block) (replies : List Reply) (n : ℕ)
    → text_of (messages_of served blocks replies) ≡ text_of (messages_of served blocks (take n replies)) ++ text_of (messages_of served blocks (drop n replies))
reply_text_split served blocks replies n =
    ap (λ (rs : List Reply). text_of (messages_of served blocks rs)) (sym (take-append-drop n replies))
    ∙ ap text_of (map-append (message_of served blocks) (take n replies) (drop n replies))
    ∙ text-append (messages_of served blocks (take n replies)) (messages_of served blocks (drop n replies))

-- a first part of a text was written, and the rest of it waits
pub record Waiting (before after : Option (List ℕ)) (waits text : List ℕ) : Type 0 where
  pub sent : List ℕ
  pub whole : Whole before after sent
  pub all : text ≡ sent ++ waits

pub waiting_none : (o : Option (List ℕ)) (w : List ℕ) → w ≡ [] → Waiting o o w (text_of [])
waiting_none o w none = record { sent = []; whole = whole_none o; all = text-nil ∙ sym none }

-- one more reply waits
pub waiting_more : (served : Serving) (blocks : List Block) (replies : List Reply) (i : ℕ) (d : Reply) (v w : List ℕ) (o p : Option (List ℕ)) → i < length replies
    → Waiting o p v (text_of (messages_of served blocks (take i replies))) → w ≡ v ++ spelling (frame_of (message_of served blocks (get_or replies i d)))
    → Waiting o p w (text_of (messages_of served blocks (take (i + 1) replies)))
waiting_more served blocks replies i d v w o p lt waiting put =
    let frame = spelling (frame_of (message_of served blocks (get_or replies i d))) in
    record {
      sent = waiting.sent;
      whole = waiting.whole;
      all = reply_text_on served blocks replies i d lt ∙ ap (λ t. t ++ frame) waiting.all ∙ append_assoc waiting.sent v frame ∙ ap (λ t. waiting.sent ++ t) (sym put);
    }

-- what waits was written
pub waiting_written : (o p q : Option (List ℕ)) (v w text : List ℕ) → Waiting o p v text → Whole p q v → w ≡ [] → Waiting o q w text
waiting_written o p q v w text waiting whole none = record {
  sent = waiting.sent ++ v;
  whole = whole_on o p q waiting.sent v waiting.whole whole;
  all = waiting.all ∙ sym (append-nil (waiting.sent ++ v)) ∙ ap (λ t. (waiting.sent ++ v) ++ t) (sym none);
}

-- nothing more is written
pub waiting_kept : (served : Serving) (blocks : List Block) (replies : List Reply) (i : ℕ) (w : List ℕ) (o p : Option (List ℕ)) → Waiting o p w (text_of (messages_of served blocks (take i replies)))
    → Beginning o p (text_of (messages_of served blocks replies))
waiting_kept served blocks replies i w o p waiting =
    let front = text_of (messages_of served blocks (take i replies)) in
    let begins : Beginning o p front = subst (Beginning o p) (sym waiting.all) (beginning_more o p waiting.sent w (beginning_whole o p waiting.sent waiting.whole)) in
    subst (Beginning o p) (sym (reply_text_split served blocks replies i)) (beginning_more o p front (text_of (messages_of served blocks (drop i replies))) begins)

-- what waits was sent
pub waiting_sent : (r : Result (Unit {0}) ServeEnd) (o p q : Option (List ℕ)) (w text : List ℕ) → Waiting o p w text → Sends r p q w → Sends r o q text
waiting_sent (Ok x) o p q w text waiting sends = whole_on o p q waiting.sent w waiting.whole sends ∙ ap (with_more o) (sym waiting.all)
waiting_sent (Err WriteFault) o p q w text waiting sends = subst (Beginning o q) (sym waiting.all) (beginning_on o p q waiting.sent w waiting.whole sends)
waiting_sent (Err NoMemory) o p q w text waiting sends = subst (Beginning o q) (sym waiting.all) (beginning_on o p q waiting.sent w waiting.whole sends)
waiting_sent (Err Closed) o p q w text waiting sends = absurd sends
waiting_sent (Err (BadFrame fault)) o p q w text waiting sends = absurd sends
waiting_sent (Err (MalformedFrame fault)) o p q w text waiting sends = absurd sends
waiting_sent (Err ReadFault) o p q w text waiting sends = absurd sends
waiting_sent (Err Tired) o p q w text waiting sends = absurd sends

-- a front of a text was sent in part
pub front_sent : (outcome : ServeEnd) (o q : Option (List ℕ)) (text front rest : List ℕ) → text ≡ front ++ rest
    → Sends (Err outcome) o q front → Sends (Err outcome) o q text
front_sent outcome o q text front rest split sends = in_part outcome sends
  where
    begins : Beginning o q front → Beginning o q text
    begins part = subst (Beginning o q) (sym split) (beginning_more o q front rest part)

    in_part : (outcome : ServeEnd) → Sends (Err outcome) o q front → Sends (Err outcome) o q text
    in_part WriteFault h = begins h
    in_part NoMemory h = begins h
    in_part Closed h = absurd h
    in_part (BadFrame fault) h = absurd h
    in_part (MalformedFrame fault) h = absurd h
    in_part ReadFault h = absurd h
    in_part Tired h = absurd h

-- a front of the replies was sent in part
pub front_in_part : (served : Serving) (blocks : List Block) (replies : List Reply) (n : ℕ) (outcome : ServeEnd) (o q : Option (List ℕ))
    → Sends (Err outcome) o q (text_of (messages_of served blocks (take n replies))) → Sends (Err outcome) o q (text_of (messages_of served blocks replies))
front_in_part served blocks replies n outcome o q sends =
    front_sent outcome o q _ (text_of (messages_of served blocks (take n replies))) (text_of (messages_of served blocks (drop n replies))) (reply_text_split served blocks replies n) sends

-- ---- a frame

-- what a reply stands for doesn't depend on whether a version came
same_message : (served : Serving) (seen : Bool) (blocks : List Block) (reply : Reply) → message_of (record served { seen = seen }) blocks reply ≡ message_of served blocks reply
same_message served seen blocks OwnVersion = refl
same_message served seen blocks OwnVerack = refl
same_message served seen blocks (PongOf number) = refl
same_message served seen blocks (HeadersOf start count) = refl
same_message served seen blocks (BlockAt height) = refl
same_message served seen blocks (CfilterAt height) = refl
same_message served seen blocks (CfheadersOf start stop_height stop) = refl
same_message served seen blocks (CfcheckptOf stop_height stop) = refl

same_messages : (served : Serving) (seen : Bool) (blocks : List Block) (replies : List Reply) → messages_of (record served { seen = seen }) blocks replies ≡ messages_of served blocks replies
same_messages served seen blocks [] = refl
same_messages served seen blocks (r ∷ rs) = (λ i. same_message served seen blocks r i ∷ same_messages served seen blocks rs i)

pub frame_sent : (blocks : List Block) (m : Msg) (read : Result Msg Malformed) (old new : Serving) (before replies : List Reply) (o q : Option (List ℕ)) (r : Result (Unit {0}) ServeEnd) → read ≡ Ok m → new ≡ served_on old m
    → before ≡ [] → Adds old blocks before replies (replies_to old.time old.nonce blocks old.seen m) → Sends r o q (text_of (messages_of new blocks replies)) → AnswersFrame r blocks read old new o q
frame_sent blocks m read old new before replies o q r is seen none adds sends =
    let all : replies ≡ adds.added = adds.joined ∙ ap (λ (rs : List Reply). rs ++ adds.added) none in
    let told : messages_of new blocks replies ≡ replies_to old.time old.nonce blocks old.seen m =
    ap (λ (s : Serving). messages_of s blocks replies) seen ∙ same_messages old (served_on old m).seen blocks replies ∙ ap (messages_of old blocks) all ∙ adds.told in
    answers r (subst (Sends r o q) (ap text_of told) sends)
  where
    answers : (r : Result (Unit {0}) ServeEnd) → Sends r o q (text_for old blocks m) → AnswersFrame r blocks read old new o q
    answers (Ok x) h = record { message = m; is = is; served = seen; written = h }
    answers (Err WriteFault) h = subst (λ (x : Result Msg Malformed). Beginning o q (frame_text old blocks x)) (sym is) h
    answers (Err NoMemory) h = subst (λ (x : Result Msg Malformed). Beginning o q (frame_text old blocks x)) (sym is) h
    answers (Err Closed) h = absurd h
    answers (Err (BadFrame fault)) h = absurd h
    answers (Err (MalformedFrame fault)) h = absurd h
    answers (Err ReadFault) h = absurd h
    answers (Err Tired) h = absurd h

-- ---- the frames that wait

pub finds_stops : (blocks : List Block) (k : ℕ) (w new : List ℕ) (s : Serving) (o : Option (List ℕ)) (outcome : ServeEnd) → 1 ≤ k → FindsFrame (Err outcome) w new → Stops blocks outcome k w s o o
finds_stops blocks zero w new s o outcome some finds = absurd (omega arith)
finds_stops blocks (suc n) w new s o (BadFrame fault) some finds = stops_bad blocks n w fault s o finds
finds_stops blocks (suc n) w new s o NoMemory some finds = stops_without_memory blocks (suc n) w s o
finds_stops blocks (suc n) w new s o Closed some finds = absurd finds
finds_stops blocks (suc n) w new s o (MalformedFrame fault) some finds = absurd finds
finds_stops blocks (suc n) w new s o ReadFault some finds = absurd finds
finds_stops blocks (suc n) w new s o WriteFault some finds = absurd finds
finds_stops blocks (suc n) w new s o Tired some finds = absurd finds

pub frame_stops : (blocks : List Block) (k : ℕ) (w rest : List ℕ) (f : Frame) (s t : Serving) (o p : Option (List ℕ)) (outcome : ServeEnd) → 1 ≤ k → front_of w ≡ Ok (Some (f, rest))
    → AnswersFrame (Err outcome) blocks (message_in f) s t o p → Stops blocks outcome k w s o p
frame_stops blocks zero w rest f s t o p outcome some front answers = absurd (omega arith)
frame_stops blocks (suc n) w rest f s t o p outcome some front answers = stops_frame blocks n w rest f s t o p outcome front answers

pub frame_moves : (blocks : List Block) (k l : ℕ) (w rest : List ℕ) (f : Frame) (s t : Serving) (o p : Option (List ℕ)) → k ≡ l + 1 → front_of w ≡ Ok (Some (f, rest))
    → Answered blocks (message_in f) s t o p → Moves blocks k l w rest s t o p
frame_moves blocks k l w rest f s t o p one front answered =
    let next : suc l ≡ k = omega (arith, one) in
    subst (λ (n : ℕ). Moves blocks n l w rest s t o p) next (moves_frame blocks l w rest f s t o p front answered)

-- one frame more is taken and answered
pub frame_taken : (blocks : List Block) (k l : ℕ) (u v w : List ℕ) (f : Frame) (found : Option Frame) (r s t : Serving) (o p q : Option (List ℕ)) → 1 ≤ l → found ≡ Some f
    → FindsFrame (Ok found) v w → Moves blocks k l u v r s o p → Answered blocks (message_in f) s t p q → Moves blocks k (l - 1) u w r t o q
frame_taken blocks k l u v w f found r s t o p q room is finds moves answered =
    let front = subst (λ (x : Option Frame). FindsFrame (Ok x) v w) is finds in
    let one : l ≡ (l - 1) + 1 = omega (arith, room) in
    moves_then blocks k l (l - 1) u v w r s t o p q moves (frame_moves blocks l (l - 1) v w f s t p q one front answered)

pub tired_stops : (blocks : List Block) (k l : ℕ) (u w : List ℕ) (r s : Serving) (o p : Option (List ℕ)) → l ≡ 0 → Moves blocks k l u w r s o p → Stops blocks Tired k u r o p
tired_stops blocks k l u w r s o p none moves =
    let last = subst (λ (n : ℕ). Moves blocks k n u w r s o p) none moves in
    stops_then blocks Tired k 0 u w r s o p p last (stops_full blocks w s p)

-- ---- what the frames that wait may lead to

inside_unless : (outcome : ServeEnd) → (outcome ≡ Closed → ⊥) → (outcome ≡ ReadFault → ⊥) → ComesInside outcome
inside_unless Closed not_closed not_unread = absurd (not_closed refl)
inside_unless (BadFrame fault) not_closed not_unread = tt
inside_unless (MalformedFrame fault) not_closed not_unread = tt
inside_unless ReadFault not_closed not_unread = absurd (not_unread refl)
inside_unless WriteFault not_closed not_unread = tt
inside_unless Tired not_closed not_unread = tt
inside_unless NoMemory not_closed not_unread = tt

pub finds_inside : (outcome : ServeEnd) (w new : List ℕ) → FindsFrame (Err outcome) w new → ComesInside outcome
finds_inside outcome w new finds =
    let P : ServeEnd → Type 0 = λ o. FindsFrame (Err o) w new in
    inside_unless outcome (λ e. subst P e finds) (λ e. subst P e finds)

pub frame_inside : (outcome : ServeEnd) (blocks : List Block) (read : Result Msg Malformed) (s t : Serving) (o p : Option (List ℕ)) → AnswersFrame (Err outcome) blocks read s t o p → ComesInside outcome
frame_inside outcome blocks read s t o p answers =
    let P : ServeEnd → Type 0 = λ x. AnswersFrame (Err x) blocks read s t o p in
    inside_unless outcome (λ e. subst P e answers) (λ e. subst P e answers)

pub inside_ends : (outcome : ServeEnd) (ended : Bool) (left : Option (List ℕ)) → ComesInside outcome → Ends outcome ended left
inside_ends Closed ended left inside = absurd inside
inside_ends (BadFrame fault) ended left inside = tt
inside_ends (MalformedFrame fault) ended left inside = tt
inside_ends ReadFault ended left inside = absurd inside
inside_ends WriteFault ended left inside = tt
inside_ends Tired ended left inside = tt
inside_ends NoMemory ended left inside = tt

pub inside_counts : (outcome : ServeEnd) (reads reads_after writes writes_after : ℕ) → ComesInside outcome → reads_after ≡ reads → CountsWrites (Err outcome) writes writes_after
    → Counts outcome reads reads_after writes writes_after
inside_counts Closed r r' w w' inside same count = absurd inside
inside_counts (BadFrame fault) r r' w w' inside same count = (same, count)
inside_counts (MalformedFrame fault) r r' w w' inside same count = (same, count)
inside_counts ReadFault r r' w w' inside same count = absurd inside
inside_counts WriteFault r r' w w' inside same count = (same, count)
inside_counts Tired r r' w w' inside same count = (same, count)
inside_counts NoMemory r r' w w' inside same count = (same, count)

-- ---- the loop over a connection's bytes

-- each turn takes a frame, or at least a byte of one that isn't whole
pub turn_smaller : (k l n : ℕ) (v w piece : List ℕ) → l ≤ k → (l ≡ k → w ≡ v ++ piece) → length piece ≡ n → 0 < n → front_of v ≡ Ok None → front_of w ≡ Ok None
    → 4000024 * l + (4000024 - length w) < 4000024 * k + (4000024 - length v)
turn_smaller k l n v w piece fewer same long some first second = elim (cases_lt l k) [
  | inl less ↦ omega (arith, less, waits_few v first)
  | inr more ↦ let all : l ≡ k = omega (arith, more, fewer) in
      omega (arith, all, ap length (same all), length-append v piece, long, some, waits_few w second)
]

pub if_some_on : {X : Type 0} (o : Option X) (P Q : X → Type 0) → ((x : X) → o ≡ Some x → P x → Q x) → IfSome o P → IfSome o Q
if_some_on None P Q each h = tt
if_some_on (Some x) P Q each h = each x refl h

-- the source ended, or failed, while no whole frame waits
pub served_so_far : (blocks : List Block) (now : ℤ) (nonce : ℕ) (bytes piece : List ℕ) (left left_after : Option (List ℕ)) (k : ℕ) (v : List ℕ) (s : Serving) (o p q : Option (List ℕ)) (outcome : ServeEnd)
    → Midway blocks (record { time = now; nonce = nonce; seen = false }) bytes left k v s o p → left ≡ with_front piece left_after → piece ≡ [] → q ≡ p → 1 ≤ k → front_of v ≡ Ok None
    → ((stop : Stop) → stop ≡ Waits → ComesAt outcome stop) → ((a b : Option (List ℕ)) (t : List ℕ) → Whole a b t → Writes outcome a b t) → IsServed now nonce blocks outcome bytes left_after o q
served_so_far blocks now nonce bytes piece left left_after zero v s o p q outcome midway read none same some waits comes writes = absurd (omega arith)
served_so_far blocks now nonce bytes piece left left_after (suc n) v s o p q outcome midway read none same some waits comes writes =
    let here : v ≡ v ++ piece = sym (append-nil v) ∙ ap (λ t. v ++ t) (sym none) in
    let ends = stops_waits blocks n v s p outcome waits comes (writes p p) in
    subst (λ (r : Option (List ℕ)). IsServed now nonce blocks outcome bytes left_after o r) (sym same)
    (midway_stops blocks now nonce bytes piece left left_after (suc n) v s o p p outcome midway read (subst (λ (x : List ℕ). Stops blocks outcome (suc n) x s p p) here ends))

pub most_is : 1000000 ≡ most_frames
unfolding most_frames
most_is = refl

-- before the first byte
pub midway_begins : (blocks : List Block) (start s : Serving) (bytes : List ℕ) (left o : Option (List ℕ)) (k : ℕ) (w : List ℕ) → left ≡ Some bytes → k ≡ most_frames → w ≡ [] → s ≡ start
    → Midway blocks start bytes left k w s o o
midway_begins blocks start s bytes left o k w told most none same =
    let first = midway_start blocks start bytes o in
    let a = subst (λ (x : Option (List ℕ)). Midway blocks start bytes x most_frames [] start o o) (sym told) first in
    let b = subst (λ (n : ℕ). Midway blocks start bytes left n [] start o o) (sym most) a in
    let c = subst (λ (x : List ℕ). Midway blocks start bytes left k x start o o) (sym none) b in
    subst (λ (x : Serving). Midway blocks start bytes left k w x o o) (sym same) c

pub if_some_each : {X : Type 0} (o : Option X) (P : X → Type 0) → ((x : X) → o ≡ Some x → P x) → IfSome o P
if_some_each None P each = tt
if_some_each (Some x) P each = each x refl

-- a turn of the loop: a piece was read, and its frames were answered
pub midway_turn : (blocks : List Block) (start : Serving) (bytes piece : List ℕ) (left between left_after : Option (List ℕ)) (k l : ℕ) (v w : List ℕ) (s t : Serving) (o p p_read q : Option (List ℕ))
    → Midway blocks start bytes left k v s o p → left ≡ with_front piece between → left_after ≡ between → p_read ≡ p → Moves blocks k l (v ++ piece) w s t p_read q → Midway blocks start bytes left_after l w t o q
midway_turn blocks start bytes piece left between left_after k l v w s t o p p_read q midway read kept same moves =
    midway_on blocks start bytes piece left left_after k l v w s t o p q midway (read ∙ ap (with_front piece) (sym kept))
    (subst (λ (x : Option (List ℕ)). Moves blocks k l (v ++ piece) w s t x q) same moves)

-- or serving ended there
pub midway_last : (blocks : List Block) (now : ℤ) (nonce : ℕ) (bytes piece : List ℕ) (left between left_after : Option (List ℕ)) (k : ℕ) (v : List ℕ) (s : Serving) (o p p_read q : Option (List ℕ)) (outcome : ServeEnd)
    → Midway blocks (record { time = now; nonce = nonce; seen = false }) bytes left k v s o p → left ≡ with_front piece between → left_after ≡ between → p_read ≡ p
    → Stops blocks outcome k (v ++ piece) s p_read q → IsServed now nonce blocks outcome bytes left_after o q
midway_last blocks now nonce bytes piece left between left_after k v s o p p_read q outcome midway read kept same stops =
    midway_stops blocks now nonce bytes piece left left_after k v s o p q outcome midway (read ∙ ap (with_front piece) (sym kept))
    (subst (λ (x : Option (List ℕ)). Stops blocks outcome k (v ++ piece) s x q) same stops)

-- a source that failed has lost nothing
pub unread : (o p : Option (List ℕ)) → p ≡ o → o ≡ with_front [] p
unread None p same = sym (ap (with_front []) same)
unread (Some bytes) p same = sym (ap (with_front []) same)

-- the moment that was handed in
pub at_moment : (blocks : List Block) (z now : ℤ) (nonce : ℕ) (bytes : List ℕ) (left : Option (List ℕ)) (k : ℕ) (v : List ℕ) (s : Serving) (o p : Option (List ℕ)) → z ≡ now
    → Midway blocks (record { time = z; nonce = nonce; seen = false }) bytes left k v s o p → Midway blocks (record { time = now; nonce = nonce; seen = false }) bytes left k v s o p
at_moment blocks z now nonce bytes left k v s o p same midway =
    subst (λ (y : ℤ). Midway blocks (record { time = y; nonce = nonce; seen = false }) bytes left k v s o p) same midway

-- so serving ends where no more comes
pub served_ends : (told : Option (List ℕ)) (blocks : List Block) (z now : ℤ) (nonce : ℕ) (piece : List ℕ) (left left_after : Option (List ℕ)) (k : ℕ) (v : List ℕ) (s : Serving) (o p q : Option (List ℕ)) (outcome : ServeEnd) → z ≡ now
    → IfSome told (λ bytes. Midway blocks (record { time = z; nonce = nonce; seen = false }) bytes left k v s o p) → left ≡ with_front piece left_after → piece ≡ [] → q ≡ p → 1 ≤ k → front_of v ≡ Ok None
    → ((stop : Stop) → stop ≡ Waits → ComesAt outcome stop) → ((a b : Option (List ℕ)) (t : List ℕ) → Whole a b t → Writes outcome a b t)
    → IfSome told (λ bytes. IsServed now nonce blocks outcome bytes left_after o q)
served_ends told blocks z now nonce piece left left_after k v s o p q outcome same midway read none kept some waits comes writes =
    if_some_on told (λ bytes. Midway blocks (record { time = z; nonce = nonce; seen = false }) bytes left k v s o p) (λ bytes. IsServed now nonce blocks outcome bytes left_after o q)
    (λ bytes is way. served_so_far blocks now nonce bytes piece left left_after k v s o p q outcome (at_moment blocks z now nonce bytes left k v s o p same way) read none kept some waits comes writes) midway

-- and where a piece ends it
pub served_last : (told : Option (List ℕ)) (blocks : List Block) (z now : ℤ) (nonce : ℕ) (piece : List ℕ) (left between left_after : Option (List ℕ)) (k : ℕ) (v : List ℕ) (s : Serving) (o p p_read q : Option (List ℕ)) (outcome : ServeEnd) → z ≡ now
    → IfSome told (λ bytes. Midway blocks (record { time = z; nonce = nonce; seen = false }) bytes left k v s o p) → left ≡ with_front piece between → left_after ≡ between → p_read ≡ p
    → Stops blocks outcome k (v ++ piece) s p_read q → IfSome told (λ bytes. IsServed now nonce blocks outcome bytes left_after o q)
served_last told blocks z now nonce piece left between left_after k v s o p p_read q outcome same midway read kept wrote stops =
    if_some_on told (λ bytes. Midway blocks (record { time = z; nonce = nonce; seen = false }) bytes left k v s o p) (λ bytes. IsServed now nonce blocks outcome bytes left_after o q)
    (λ bytes is way. midway_last blocks now nonce bytes piece left between left_after k v s o p p_read q outcome (at_moment blocks z now nonce bytes left k v s o p same way) read kept wrote stops) midway

-- and where it goes on behind a piece
pub midway_goes : (told : Option (List ℕ)) (blocks : List Block) (start : Serving) (piece : List ℕ) (left between left_after : Option (List ℕ)) (k l : ℕ) (v w : List ℕ) (s t : Serving) (o p p_read q : Option (List ℕ))
    → IfSome told (λ bytes. Midway blocks start bytes left k v s o p) → left ≡ with_front piece between → left_after ≡ between → p_read ≡ p → Moves blocks k l (v ++ piece) w s t p_read q
    → IfSome told (λ bytes. Midway blocks start bytes left_after l w t o q)
midway_goes told blocks start piece left between left_after k l v w s t o p p_read q midway read kept same moves =
    if_some_on told (λ bytes. Midway blocks start bytes left k v s o p) (λ bytes. Midway blocks start bytes left_after l w t o q)
    (λ bytes is way. midway_turn blocks start bytes piece left between left_after k l v w s t o p p_read q way read kept same moves) midway
