-- A peer's part of a log is what reading its bytes gives, and what it was asked is what was sent to it.
use Rattle.std.proofs.Common.{◌≡◌, ℕ, List, [], ◌∷◌, ◌++◌, map, Option, Some, None, Ok, Err, Bool, true, false, if◌then◌else◌, ◌==◌, refl, sym, ap, ◌∙◌, subst, append_assoc, arith}
use Rattle.std.proofs.lemmas.List.{append-nil}
use Rattle.std.specs.List.{AllByRecursion}
use Rattle.std.specs.Prelude.{option_to_list}
use Rattle.cf_bytes.specs.Cut.{IsBytes}
use Rattle.cf_frame.specs.declared.frame.Frame.{Frame}
use Rattle.cf_frame.specs.declared.frame.FrameFault.{FrameFault}
use Rattle.cf_frame.specs.Stream.{StreamRead, read_stream, continued, with_frames}
use Rattle.cf_frame.proofs.Streams.{stream_joined, stream_empty}
use Rattle.cf_msg.specs.declared.msg.Msg.{Msg}
use Rattle.cf_msg.specs.Reading.{message_of}
use Rattle.cf_peer.specs.Acts.{bytes_of, IsSendable}
use Rattle.cf_peer.specs.Trail.{Trail, Part, Lost, called_part, with_item, item_of, item_of_read, hears, hears_fault, part_after, heard_part, spelled, asks, part_of, trail}
use Rattle.cf_wires.specs.declared.event.Delivery.TheVariants.{Got, Gone, Tick, Ended}
use Rattle.cf_wires.specs.declared.event.Event.TheVariants.{Dialled, NotDialled, Sent, SendFailed, Closed, Took}
use Rattle.cf_wires.specs.declared.event.Mark.TheVariants as mark
use Rattle.cf_wires.specs.Log.{Log}
use Rattle.cf_sync.specs.Fetching.{AreBytes}
use Rattle.cf_sync.specs.Honesty.{messages_asked, messages_said, IsSpelled}
use Rattle.cf_sync.proofs.Entries.{at_either}
use Rattle.cf_headline.specs.Headline.{bytes_from, sends_to, WasSent}
use Rattle.cf_headline.proofs.Again.{msg_of, messages_in, AreRead, messages_append, read_left, read_right, bytes_both, spelled_again}

-- what is said of a peer in two ways, by whether an entry names it
pub at_both : {A : Type 0} (P : A → Part → Type 0) (b : Bool) (one two : A) (here other : Part)
    → (b ≡ true → P one here)
    → (b ≡ false → P two other) → P (if b then one else two) (if b then here else other)
at_both P true one two here other on off = on refl
at_both P false one two here other on off = off refl

pub at_one : {A : Type 0} (P : A → Type 0) (b : Bool) (one two : A) → P one → P two → P (if b then one else two)
at_one P true one two on off = on
at_one P false one two on off = off

-- ---- what came were bytes

pub from_bytes : (log : Log) (p : ℕ) → AreBytes log → IsBytes (bytes_from log p)
from_bytes [] p are = λ i. omega arith
from_bytes (Dialled q name ∷ log) p are =
    at_one IsBytes (q.0 == p) [] (bytes_from log p) (λ i. omega arith) (from_bytes log p are)
from_bytes (NotDialled q name ∷ log) p are = from_bytes log p are
from_bytes (Sent q bytes ∷ log) p are = from_bytes log p are
from_bytes (SendFailed q ∷ log) p are = from_bytes log p are
from_bytes (Closed q ∷ log) p are = from_bytes log p are
from_bytes (Took (Got q piece) ∷ log) p are =
    at_one IsBytes (q.0 == p) (bytes_from log p ++ piece) (bytes_from log p)
    (bytes_both (bytes_from log p) piece (from_bytes log p are.1) are.0) (from_bytes log p are.1)
from_bytes (Took (Gone q) ∷ log) p are = from_bytes log p are
from_bytes (Took (Tick s) ∷ log) p are = from_bytes log p are
from_bytes (Took Ended ∷ log) p are = from_bytes log p are

-- ---- frames that are heard

item_said : (f : Frame) (t : Trail) → messages_said (item_of f ∷ t) ≡ messages_said t ++ msg_of (message_of f)
item_said f t = elim (message_of f) as (λ r. messages_said (item_of_read r ∷ t) ≡ messages_said t ++ msg_of r) [
  | Ok m ↦ refl
  | Err e ↦ sym (append-nil (messages_said t))
]

pub hears_said : (fs : List Frame) (t : Trail) → messages_said (hears fs t) ≡ messages_said t ++ messages_in fs
hears_said [] t = sym (append-nil (messages_said t))
hears_said (f ∷ fs) t =
    hears_said fs (item_of f ∷ t) ∙ ap (λ x. x ++ messages_in fs) (item_said f t)
    ∙ append_assoc (messages_said t) (msg_of (message_of f)) (messages_in fs)

item_spelled : (f : Frame) (t : Trail) → (m : Msg) × (message_of f ≡ Ok m) → IsSpelled t → IsSpelled (item_of f ∷ t)
item_spelled f t read is = subst (λ r. IsSpelled (item_of_read r ∷ t)) (sym read.1) is

hears_spelled : (fs : List Frame) (t : Trail) → AreRead fs → IsSpelled t → IsSpelled (hears fs t)
hears_spelled [] t read is = is
hears_spelled (f ∷ fs) t read is = hears_spelled fs (item_of f ∷ t) read.1 (item_spelled f t read.0 is)

item_asked : (f : Frame) (t : Trail) → messages_asked (item_of f ∷ t) ≡ messages_asked t
item_asked f t =
    elim (message_of f) as (λ r. messages_asked (item_of_read r ∷ t) ≡ messages_asked t) [ Ok m ↦ refl | Err e ↦ refl ]

hears_asked : (fs : List Frame) (t : Trail) → messages_asked (hears fs t) ≡ messages_asked t
hears_asked [] t = refl
hears_asked (f ∷ fs) t = hears_asked fs (item_of f ∷ t) ∙ item_asked f t

fault_asked : (o : Option FrameFault) (t : Trail) → messages_asked (hears_fault o t) ≡ messages_asked t
fault_asked None t = refl
fault_asked (Some fault) t = refl

-- ---- what came is what was said

-- a part is what a stream was read as, as long as that has no fault
pub record IsReadAs (r : StreamRead) (part : Part) : Type 0 where
  pub waits : part.waits ≡ r.rest
  pub said : messages_said part.trail ≡ messages_in r.frames
  pub whole : AreRead r.frames → IsSpelled part.trail

abbrev Reads : List ℕ → Part → Type 0
Reads bytes part = (read_stream bytes).fault ≡ None → IsReadAs (read_stream bytes) part

abbrev start : StreamRead
start = record { frames = []; rest = []; fault = None }

reads_start : (part : Part) → IsReadAs start part → Reads [] part
reads_start part is none = subst (λ r. IsReadAs r part) (sym stream_empty) is

asks_said : (o : Option Msg) (t : Trail) → messages_said (asks o t) ≡ messages_said t
asks_said None t = refl
asks_said (Some m) t = refl

asks_whole : (o : Option Msg) (t : Trail) → IsSpelled t → IsSpelled (asks o t)
asks_whole None t is = is
asks_whole (Some m) t is = is

-- a piece is read on
piece_on : (frames : List Frame) (rest piece : List ℕ) (part : Part) (s : StreamRead) → part.waits ≡ rest
    → read_stream (rest ++ piece) ≡ s → s.fault ≡ None → messages_said part.trail ≡ messages_in frames
    → (AreRead frames → IsSpelled part.trail) → IsReadAs (with_frames frames s) (heard_part piece part)
piece_on frames rest piece part s waits read none said whole =
    let same : heard_part piece part ≡ record { trail = hears s.frames part.trail; waits = s.rest } =
    ap (λ l. part_after (read_stream (l ++ piece)) part.trail) waits ∙ ap (λ r. part_after r part.trail) read
    ∙ ap (λ o. record { trail = hears_fault o (hears s.frames part.trail); waits = s.rest }) none in
    subst (IsReadAs (with_frames frames s)) (sym same) (record {
      waits = refl;
      said =
          hears_said s.frames part.trail ∙ ap (λ x. x ++ messages_in s.frames) said
          ∙ sym (messages_append frames s.frames);
      whole =
          λ all. hears_spelled s.frames part.trail (read_right frames s.frames all)
          (whole (read_left frames s.frames all));
    })

piece_reads : (bytes piece : List ℕ) (part : Part) → Reads bytes part → Reads (bytes ++ piece) (heard_part piece part)
piece_reads bytes piece part before =
    let r : StreamRead = read_stream bytes in
    subst (λ (x : StreamRead). x.fault ≡ None → IsReadAs x (heard_part piece part)) (sym (stream_joined bytes piece))
    (by_fault r r.fault refl before)
  where
    by_fault : (r : StreamRead) (o : Option FrameFault) → r.fault ≡ o → (r.fault ≡ None → IsReadAs r part)
        → (continued o r piece).fault ≡ None → IsReadAs (continued o r piece) (heard_part piece part)
    by_fault r None e before none =
        let is = before e in
        piece_on r.frames r.rest piece part (read_stream (r.rest ++ piece)) is.waits refl none is.said is.whole
    by_fault r (Some fault) e before none = absurd (let clash = sym e ∙ none in cc)

-- a loss changes nothing of it
lost : (bytes : List ℕ) (part : Part) (w : Part → Part) → Reads bytes part
    → ((r : StreamRead) → IsReadAs r part → IsReadAs r (w part)) → Reads bytes (w part)
lost bytes part w before on none = on (read_stream bytes) (before none)

pub reads : (log : Log) (p : ℕ) → (read_stream (bytes_from log p)).fault ≡ None
    → IsReadAs (read_stream (bytes_from log p)) (part_of log p)
reads [] p = reads_start (part_of [] p) (record { waits = refl; said = refl; whole = λ all. tt })
reads (Dialled q name ∷ log) p =
    at_both Reads (q.0 == p) [] (bytes_from log p) (called_part (part_of log p)) (part_of log p)
    (λ is. reads_start (called_part (part_of log p)) (record { waits = refl; said = refl; whole = λ all. tt }))
    (λ off. reads log p)
reads (NotDialled q name ∷ log) p =
    at_either (Reads (bytes_from log p)) (q.0 == p) (with_item (Lost mark.NotDialled) (part_of log p)) (part_of log p)
    (λ is none. let before = reads log p none in
    record { waits = before.waits; said = before.said; whole = before.whole }) (λ off. reads log p)
reads (Sent q bytes ∷ log) p =
    at_either (Reads (bytes_from log p)) (q.0 == p)
    (record (part_of log p) { trail = asks (spelled bytes) (trail log p) }) (part_of log p)
    (λ is none. let before = reads log p none in record {
      waits = before.waits;
      said = asks_said (spelled bytes) (trail log p) ∙ before.said;
      whole = λ all. asks_whole (spelled bytes) (trail log p) (before.whole all);
    }) (λ off. reads log p)
reads (SendFailed q ∷ log) p =
    at_either (Reads (bytes_from log p)) (q.0 == p) (with_item (Lost mark.SendFailed) (part_of log p)) (part_of log p)
    (λ is none. let before = reads log p none in
    record { waits = before.waits; said = before.said; whole = before.whole }) (λ off. reads log p)
reads (Closed q ∷ log) p =
    at_either (Reads (bytes_from log p)) (q.0 == p) (with_item (Lost mark.Closed) (part_of log p)) (part_of log p)
    (λ is none. let before = reads log p none in
    record { waits = before.waits; said = before.said; whole = before.whole }) (λ off. reads log p)
reads (Took (Got q piece) ∷ log) p =
    at_both Reads (q.0 == p) (bytes_from log p ++ piece) (bytes_from log p) (heard_part piece (part_of log p))
    (part_of log p)
    (λ is. piece_reads (bytes_from log p) piece (part_of log p) (reads log p)) (λ off. reads log p)
reads (Took (Gone q) ∷ log) p =
    at_either (Reads (bytes_from log p)) (q.0 == p) (with_item (Lost mark.Gone) (part_of log p)) (part_of log p)
    (λ is none. let before = reads log p none in
    record { waits = before.waits; said = before.said; whole = before.whole }) (λ off. reads log p)
reads (Took (Tick s) ∷ log) p =
    λ none. let before = reads log p none in record { waits = before.waits; said = before.said; whole = before.whole }
reads (Took Ended ∷ log) p = reads log p

-- ---- what was sent is what it was asked

-- the messages that these bytes spell, those left out that spell none
abbrev sent_messages : List (List ℕ) → List Msg
sent_messages [] = []
sent_messages (bytes ∷ more) = option_to_list (spelled bytes) ++ sent_messages more

sent_append : (xs : List (List ℕ)) (bytes : List ℕ) → sent_messages (xs ++ bytes ∷ []) ≡ sent_messages xs
    ++ option_to_list (spelled bytes)
sent_append [] bytes = append-nil (option_to_list (spelled bytes))
sent_append (x ∷ xs) bytes =
    ap (λ l. option_to_list (spelled x) ++ l) (sent_append xs bytes)
    ∙ sym (append_assoc (option_to_list (spelled x)) (sent_messages xs) (option_to_list (spelled bytes)))

asks_asked : (o : Option Msg) (t : Trail) → messages_asked (asks o t) ≡ messages_asked t ++ option_to_list o
asks_asked None t = sym (append-nil (messages_asked t))
asks_asked (Some m) t = refl

abbrev IsAskedAs : List (List ℕ) → Part → Type 0
IsAskedAs sends part = messages_asked part.trail ≡ sent_messages sends

asked_sent : (log : Log) (p : ℕ) → messages_asked (trail log p) ≡ sent_messages (sends_to log p)
asked_sent [] p = refl
asked_sent (Dialled q name ∷ log) p =
    at_both IsAskedAs (q.0 == p) [] (sends_to log p) (called_part (part_of log p)) (part_of log p) (λ is. refl)
    (λ off. asked_sent log p)
asked_sent (NotDialled q name ∷ log) p =
    at_either (IsAskedAs (sends_to log p)) (q.0 == p) (with_item (Lost mark.NotDialled) (part_of log p)) (part_of log p)
    (λ is. asked_sent log p) (λ off. asked_sent log p)
asked_sent (Sent q bytes ∷ log) p =
    at_both IsAskedAs (q.0 == p) (sends_to log p ++ bytes ∷ []) (sends_to log p)
    (record (part_of log p) { trail = asks (spelled bytes) (trail log p) }) (part_of log p)
    (λ is. asks_asked (spelled bytes) (trail log p) ∙ ap (λ l. l ++ option_to_list (spelled bytes)) (asked_sent log p)
    ∙ sym (sent_append (sends_to log p) bytes))
    (λ off. asked_sent log p)
asked_sent (SendFailed q ∷ log) p =
    at_either (IsAskedAs (sends_to log p)) (q.0 == p) (with_item (Lost mark.SendFailed) (part_of log p)) (part_of log p)
    (λ is. asked_sent log p) (λ off. asked_sent log p)
asked_sent (Closed q ∷ log) p =
    at_either (IsAskedAs (sends_to log p)) (q.0 == p) (with_item (Lost mark.Closed) (part_of log p)) (part_of log p)
    (λ is. asked_sent log p) (λ off. asked_sent log p)
asked_sent (Took (Got q piece) ∷ log) p =
    at_either (IsAskedAs (sends_to log p)) (q.0 == p) (heard_part piece (part_of log p)) (part_of log p)
    (λ is. let r : StreamRead = read_stream ((part_of log p).waits ++ piece) in
    fault_asked r.fault (hears r.frames (trail log p)) ∙ hears_asked r.frames (trail log p) ∙ asked_sent log p)
    (λ off. asked_sent log p)
asked_sent (Took (Gone q) ∷ log) p =
    at_either (IsAskedAs (sends_to log p)) (q.0 == p) (with_item (Lost mark.Gone) (part_of log p)) (part_of log p)
    (λ is. asked_sent log p) (λ off. asked_sent log p)
asked_sent (Took (Tick s) ∷ log) p = asked_sent log p
asked_sent (Took Ended ∷ log) p = asked_sent log p

sent_again : (ms : List Msg) → AllByRecursion IsSendable ms → sent_messages (map bytes_of ms) ≡ ms
sent_again [] fit = refl
sent_again (m ∷ ms) fit =
    ap (λ o. option_to_list o ++ sent_messages (map bytes_of ms)) (spelled_again m fit.0)
    ∙ ap (λ x. m ∷ x) (sent_again ms fit.1)

-- messages that were sent are those that it was asked
pub asked_is : (log : Log) (p : ℕ) (ms : List Msg) → WasSent ms log p → messages_asked (trail log p) ≡ ms
asked_is log p ms sent = asked_sent log p ∙ ap sent_messages (sym sent.1) ∙ sent_again ms sent.0
