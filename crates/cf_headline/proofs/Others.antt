-- What counts of a peer's headers stands in the messages that its bytes begin with.
use Rattle.std.proofs.Common.{◌≡◌, ◌⊎◌, inl, inr, ℕ, ◌≤◌, List, [], ◌∷◌, ◌++◌, length, Option, Some, None, Result, Ok, Err, Bool, true, false, not, ◌&&◌, ◌||◌, if◌then◌else◌, ◌==◌, refl, sym, ap, ◌∙◌, subst, append_assoc, arith}
use Rattle.std.proofs.lemmas.List.{append-nil}
use Rattle.std.specs.List.{flat_map, AllByRecursion}
use Rattle.cf_block.specs.declared.header.Header.{Header}
use Rattle.cf_block.specs.declared.tx.Block.{Block}
use Rattle.cf_bytes.specs.Cut.{IsBytes}
use Rattle.cf_frame.specs.declared.frame.Frame.{Frame}
use Rattle.cf_frame.specs.declared.frame.FrameFault.{FrameFault}
use Rattle.cf_frame.specs.Frame.{IsFrame, spelling}
use Rattle.cf_frame.specs.Stream.{StreamRead, read_stream}
use Rattle.cf_frame.proofs.Relations.{stream_whole}
use Rattle.cf_headers.specs.Shown.{IsShown}
use Rattle.cf_msg.specs.declared.msg.Malformed.{Malformed}
use Rattle.cf_msg.specs.declared.msg.Msg.{Msg}
use Rattle.cf_msg.specs.declared.msg.Msg.TheVariants.{Headers}
use Rattle.cf_msg.specs.Reading.{message_of}
use Rattle.cf_peer.specs.Acts.{bytes_of, IsSendable}
use Rattle.cf_peer.specs.Asking.{counted, counts, lists, lists_in, verdict, fault_of}
use Rattle.cf_peer.specs.Trail.{Trail, Part, Called, Said, Refused, Asked, Passed, Lost, called_part, with_item, item_of, item_of_read, hears, hears_fault, heard_part, spelled, asks, part_of, trail, is_connected, ready, first}
use Rattle.cf_peer.specs.declared.peer.Cause.{Cause}
use Rattle.cf_peer.specs.declared.peer.Cause.TheVariants.{BadFrame, Malformed as IsMalformed}
use Rattle.std.specs.Prelude.{is_none}
use Rattle.cf_wires.specs.declared.event.Delivery.TheVariants.{Got, Gone, Tick, Ended}
use Rattle.cf_wires.specs.declared.event.Event.TheVariants.{Dialled, NotDialled, Sent, SendFailed, Closed, Took}
use Rattle.cf_wires.specs.declared.event.Mark.{Mark}
use Rattle.cf_wires.specs.declared.event.Mark.TheVariants as mark
use Rattle.cf_wires.specs.Log.{Log}
use Rattle.cf_sync.specs.Fetching.{AreBytes}
use Rattle.cf_sync.specs.Honesty.{ShowsNoOther, was_called}
use Rattle.cf_sync.proofs.Chains.{headers_length}
use Rattle.cf_sync.proofs.Entries.{at_either}
use Rattle.cf_headline.specs.Headline.{bytes_from, was_dialled, is_there, Says, lists_of, IsLongest}
use Rattle.cf_headline.proofs.Again.{bytes_left, bytes_right, bytes_both}
use Rattle.cf_headline.proofs.Parts.{at_both}
use Rattle.cf_headline.proofs.Strings.{written}

-- ---- lists of headers

-- headers that lists show are shown by the messages
abbrev AreToldIn : List (List Header) → List Msg → Type 0
AreToldIn hss ms = (h : Header) → IsShown hss h → IsShown (lists_of ms) h

pub shown_either : (xs ys : List (List Header)) (h : Header) → IsShown (xs ++ ys) h → IsShown xs h ⊎ IsShown ys h
shown_either [] ys h is = inr is
shown_either (x ∷ xs) ys h (inl now) = inl (inl now)
shown_either (x ∷ xs) ys h (inr later) =
    elim (shown_either xs ys h later) [ inl one ↦ inl (inr one) | inr two ↦ inr two ]

shown_left : (xs ys : List (List Header)) (h : Header) → IsShown xs h → IsShown (xs ++ ys) h
shown_left [] ys h is = absurd is
shown_left (x ∷ xs) ys h (inl now) = inl now
shown_left (x ∷ xs) ys h (inr later) = inr (shown_left xs ys h later)

shown_right : (xs ys : List (List Header)) (h : Header) → IsShown ys h → IsShown (xs ++ ys) h
shown_right [] ys h is = is
shown_right (x ∷ xs) ys h is = inr (shown_right xs ys h is)

pub one_list : (m : Msg) (ms : List Msg) → lists_of (m ∷ ms) ≡ lists_in m ++ lists_of ms
one_list (Headers hs) ms = refl
one_list m ms = refl

lists_append : (ms : List Msg) (m : Msg) → lists_of (ms ++ m ∷ []) ≡ lists_of ms ++ lists_in m
lists_append [] m = one_list m [] ∙ append-nil (lists_in m)
lists_append (n ∷ ms) m =
    one_list n (ms ++ m ∷ []) ∙ ap (λ x. lists_in n ++ x) (lists_append ms m)
    ∙ sym (append_assoc (lists_in n) (lists_of ms) (lists_in m)) ∙ ap (λ x. x ++ lists_in m) (sym (one_list n ms))

flat_append : (ms : List Msg) (m : Msg) (rest : List ℕ)
    → flat_map bytes_of ms ++ (bytes_of m ++ rest) ≡ flat_map bytes_of (ms ++ m ∷ []) ++ rest
flat_append [] m rest = ap (λ l. l ++ rest) (sym (append-nil (bytes_of m)))
flat_append (n ∷ ms) m rest =
    append_assoc (bytes_of n) (flat_map bytes_of ms) (bytes_of m ++ rest)
    ∙ ap (λ l. bytes_of n ++ l) (flat_append ms m rest)
    ∙ sym (append_assoc (bytes_of n) (flat_map bytes_of (ms ++ m ∷ [])) rest)

fit_append : (ms : List Msg) (m : Msg) → AllByRecursion IsSendable ms → IsSendable m
    → AllByRecursion IsSendable (ms ++ m ∷ [])
fit_append [] m all one = (one, tt)
fit_append (n ∷ ms) m all one = (all.0, fit_append ms m all.1 one)

-- ---- one message more

-- messages that bytes begin with, among which are the headers that count; all that came, but what waits, where nothing
-- deserves a cause
record Heard (bytes : List ℕ) (t : Trail) (waits : List ℕ) : Type 0 where
  ms : List Msg
  says : Says ms bytes
  shown : AreToldIn (lists (counted t)) ms
  clean : verdict t ≡ None → says.rest ≡ waits

said_shown : (ms : List Msg) (m : Msg) (t : Trail) → AreToldIn (lists t) ms
    → AreToldIn (lists (Said m ∷ t)) (ms ++ m ∷ [])
said_shown ms m t old h is = subst (λ x. IsShown x h) (sym (lists_append ms m)) (by_ready (ready t) is) where
  by_ready : (b : Bool) → IsShown (if b then lists_in m ++ lists t else lists t) h
      → IsShown (lists_of ms ++ lists_in m) h
  by_ready true is = elim (shown_either (lists_in m) (lists t) h is) [
    | inl now ↦ shown_right (lists_of ms) (lists_in m) h now
    | inr before ↦ shown_left (lists_of ms) (lists_in m) h (old h before)
  ]
  by_ready false is = shown_left (lists_of ms) (lists_in m) h (old h is)

more_shown : (ms : List Msg) (m : Msg) (hss : List (List Header)) → AreToldIn hss ms → AreToldIn hss (ms ++ m ∷ [])
more_shown ms m hss old h is =
    subst (λ x. IsShown x h) (sym (lists_append ms m)) (shown_left (lists_of ms) (lists_in m) h (old h is))

counts_shown : (ms : List Msg) (m : Msg) (t : Trail) (b : Bool) → AreToldIn (lists t) ms
    → AreToldIn (lists (if b then Said m ∷ t else t)) (ms ++ m ∷ [])
counts_shown ms m t true old = said_shown ms m t old
counts_shown ms m t false old = more_shown ms m (lists t) old

-- after a cause nothing counts
no_more : (m : Msg) (t : Trail) (cause : Cause) → verdict t ≡ Some cause → counts m t ≡ false
no_more m t cause e = ap (λ v. is_connected t && is_none (first v (fault_of m t))) e ∙ none_of (is_connected t) where
  none_of : (b : Bool) → (b && false) ≡ false
  none_of true = refl
  none_of false = refl

message_heard : (bytes after : List ℕ) (f : Frame) (m : Msg) (t : Trail) → spelling f ≡ bytes_of m → IsSendable m
    → Heard bytes t (spelling f ++ after) → Heard bytes (Said m ∷ t) after
message_heard bytes after f m t is fits h = by_verdict (verdict t) refl where
  by_verdict : (v : Option Cause) → verdict t ≡ v → Heard bytes (Said m ∷ t) after
  by_verdict None e = record {
    ms = h.ms ++ m ∷ [];
    says = record {
      fit = fit_append h.ms m h.says.fit fits;
      rest = after;
      joined =
          h.says.joined ∙ ap (λ l. flat_map bytes_of h.ms ++ l) (h.clean e ∙ ap (λ l. l ++ after) is)
          ∙ flat_append h.ms m after;
    };
    shown = counts_shown h.ms m (counted t) (counts m t) h.shown;
    clean = λ none. refl;
  }
  by_verdict (Some cause) e = record {
    ms = h.ms;
    says = h.says;
    shown =
        subst (λ (b : Bool). AreToldIn (lists (if b then Said m ∷ counted t else counted t)) h.ms)
        (sym (no_more m t cause e)) h.shown;
    clean = λ none. absurd (let clash = sym (ap (λ v. first v (fault_of m t)) e) ∙ none in cc);
  }

refused_heard : (bytes waits after : List ℕ) (cause : Cause) (t : Trail) → Heard bytes t waits
    → Heard bytes (Refused cause ∷ t) after
refused_heard bytes waits after cause t h = record {
  ms = h.ms;
  says = h.says;
  shown = h.shown;
  clean = λ none. absurd (some_first (verdict t) cause none);
} where
  some_first : (v : Option Cause) (cause : Cause) → first v (Some cause) ≡ None → ⊥
  some_first None cause e = (let clash = e in cc)
  some_first (Some c) cause e = (let clash = e in cc)

item_heard : (bytes after : List ℕ) (f : Frame) (t : Trail) → IsFrame f → IsBytes (spelling f)
    → Heard bytes t (spelling f ++ after) → Heard bytes (item_of f ∷ t) after
item_heard bytes after f t frame are h = by_read (message_of f) refl where
  by_read : (r : Result Msg Malformed) → message_of f ≡ r → Heard bytes (item_of_read r ∷ t) after
  by_read (Ok m) e = let w = written f m frame are e in message_heard bytes after f m t w.is w.fits h
  by_read (Err x) e = refused_heard bytes (spelling f ++ after) after IsMalformed t h

hears_heard : (bytes rest : List ℕ) (fs : List Frame) (t : Trail) → AllByRecursion IsFrame fs
    → IsBytes (flat_map spelling fs ++ rest)
    → Heard bytes t (flat_map spelling fs ++ rest) → Heard bytes (hears fs t) rest
hears_heard bytes rest [] t frames are h = h
hears_heard bytes rest (f ∷ fs) t frames are h =
    let after : List ℕ = flat_map spelling fs ++ rest in
    let split : (spelling f ++ flat_map spelling fs) ++ rest ≡ spelling f ++ after =
    append_assoc (spelling f) (flat_map spelling fs) rest in
    let both : IsBytes (spelling f ++ after) = subst IsBytes split are in
    hears_heard bytes rest fs (item_of f ∷ t) frames.1 (bytes_right (spelling f) after both)
    (item_heard bytes after f t frames.0 (bytes_left (spelling f) after both) (subst (Heard bytes t) split h))

fault_heard : (bytes rest : List ℕ) (o : Option FrameFault) (t : Trail) → Heard bytes t rest
    → Heard bytes (hears_fault o t) rest
fault_heard bytes rest None t h = h
fault_heard bytes rest (Some fault) t h = refused_heard bytes rest rest BadFrame t h

more_came : (bytes piece waits : List ℕ) (t : Trail) → Heard bytes t waits → Heard (bytes ++ piece) t (waits ++ piece)
more_came bytes piece waits t h = record {
  ms = h.ms;
  says = record {
    fit = h.says.fit;
    rest = h.says.rest ++ piece;
    joined = ap (λ l. l ++ piece) h.says.joined ∙ append_assoc (flat_map bytes_of h.ms) h.says.rest piece;
  };
  shown = h.shown;
  clean = λ none. ap (λ l. l ++ piece) (h.clean none);
}

-- ---- by the log

record HeardPart (bytes : List ℕ) (part : Part) : Type 0 where
  waiting : IsBytes part.waits
  heard : Heard bytes part.trail part.waits

piece_heard : (bytes piece : List ℕ) (part : Part) → IsBytes piece → HeardPart bytes part
    → HeardPart (bytes ++ piece) (heard_part piece part)
piece_heard bytes piece part are h =
    let s : StreamRead = read_stream (part.waits ++ piece) in
    let waiting : IsBytes (part.waits ++ piece) = bytes_both part.waits piece h.waiting are in
    let whole = stream_whole (part.waits ++ piece) waiting in
    let split : IsBytes (flat_map spelling s.frames ++ s.rest) = subst IsBytes whole.joined waiting in
    record {
      waiting = bytes_right (flat_map spelling s.frames) s.rest split;
      heard = fault_heard (bytes ++ piece) s.rest s.fault (hears s.frames part.trail)
          (hears_heard (bytes ++ piece) s.rest s.frames part.trail whole.each split
          (subst (Heard (bytes ++ piece) part.trail) whole.joined
          (more_came bytes piece part.waits part.trail h.heard)));
    }

none_heard : (t : Trail) → lists (counted t) ≡ [] → Heard [] t []
none_heard t none = record {
  ms = [];
  says = record { fit = tt; rest = []; joined = refl };
  shown = λ h is. absurd (subst (λ x. IsShown x h) none is);
  clean = λ e. refl;
}

-- an item that changes neither what counts nor the verdict
same_heard : (bytes waits : List ℕ) (t u : Trail) → lists (counted u) ≡ lists (counted t) → verdict u ≡ verdict t
    → Heard bytes t waits → Heard bytes u waits
same_heard bytes waits t u same alike h = record {
  ms = h.ms;
  says = h.says;
  shown = subst (λ x. AreToldIn x h.ms) (sym same) h.shown;
  clean = λ none. h.clean (sym alike ∙ none);
}

asks_heard : (bytes waits : List ℕ) (o : Option Msg) (t : Trail) → Heard bytes t waits → Heard bytes (asks o t) waits
asks_heard bytes waits None t h = h
asks_heard bytes waits (Some m) t h = same_heard bytes waits t (Asked m ∷ t) refl refl h

lost_heard : (bytes : List ℕ) (part : Part) (m : Mark) → HeardPart bytes part
    → HeardPart bytes (with_item (Lost m) part)
lost_heard bytes part m h =
    record {
      waiting = h.waiting;
      heard = same_heard bytes part.waits part.trail (Lost m ∷ part.trail) refl refl h.heard;
    }

heard_all : (log : Log) (q : ℕ) → AreBytes log → HeardPart (bytes_from log q) (part_of log q)
heard_all [] q are = record { waiting = λ i. omega arith; heard = none_heard [] refl }
heard_all (Dialled p name ∷ log) q are =
    at_both HeardPart (p.0 == q) [] (bytes_from log q) (called_part (part_of log q)) (part_of log q)
    (λ is. record { waiting = λ i. omega arith; heard = none_heard (Called ∷ trail log q) refl })
    (λ off. heard_all log q are)
heard_all (NotDialled p name ∷ log) q are =
    at_either (HeardPart (bytes_from log q)) (p.0 == q) (with_item (Lost mark.NotDialled) (part_of log q))
    (part_of log q)
    (λ is. lost_heard (bytes_from log q) (part_of log q) mark.NotDialled (heard_all log q are))
    (λ off. heard_all log q are)
heard_all (Sent p bytes ∷ log) q are =
    at_either (HeardPart (bytes_from log q)) (p.0 == q)
    (record (part_of log q) { trail = asks (spelled bytes) (trail log q) }) (part_of log q)
    (λ is. let h = heard_all log q are in
    record {
      waiting = h.waiting;
      heard = asks_heard (bytes_from log q) (part_of log q).waits (spelled bytes)
          (trail log q) h.heard;
    })
    (λ off. heard_all log q are)
heard_all (SendFailed p ∷ log) q are =
    at_either (HeardPart (bytes_from log q)) (p.0 == q) (with_item (Lost mark.SendFailed) (part_of log q))
    (part_of log q)
    (λ is. lost_heard (bytes_from log q) (part_of log q) mark.SendFailed (heard_all log q are))
    (λ off. heard_all log q are)
heard_all (Closed p ∷ log) q are =
    at_either (HeardPart (bytes_from log q)) (p.0 == q) (with_item (Lost mark.Closed) (part_of log q)) (part_of log q)
    (λ is. lost_heard (bytes_from log q) (part_of log q) mark.Closed (heard_all log q are)) (λ off. heard_all log q are)
heard_all (Took (Got p piece) ∷ log) q are =
    at_both HeardPart (p.0 == q) (bytes_from log q ++ piece) (bytes_from log q) (heard_part piece (part_of log q))
    (part_of log q)
    (λ is. piece_heard (bytes_from log q) piece (part_of log q) are.0 (heard_all log q are.1))
    (λ off. heard_all log q are.1)
heard_all (Took (Gone p) ∷ log) q are =
    at_either (HeardPart (bytes_from log q)) (p.0 == q) (with_item (Lost mark.Gone) (part_of log q)) (part_of log q)
    (λ is. lost_heard (bytes_from log q) (part_of log q) mark.Gone (heard_all log q are)) (λ off. heard_all log q are)
heard_all (Took (Tick s) ∷ log) q are =
    let h = heard_all log q are in
    record {
      waiting = h.waiting;
      heard = same_heard (bytes_from log q) (part_of log q).waits (trail log q)
          (Passed s ∷ trail log q) refl refl h.heard;
    }
heard_all (Took Ended ∷ log) q are = heard_all log q are

-- ---- who is there

item_there : (f : Frame) (t : Trail) → is_connected (item_of f ∷ t) ≡ is_connected t
item_there f t =
    elim (message_of f) as (λ r. is_connected (item_of_read r ∷ t) ≡ is_connected t) [ Ok m ↦ refl | Err e ↦ refl ]

hears_there : (fs : List Frame) (t : Trail) → is_connected (hears fs t) ≡ is_connected t
hears_there [] t = refl
hears_there (f ∷ fs) t = hears_there fs (item_of f ∷ t) ∙ item_there f t

fault_there : (o : Option FrameFault) (t : Trail) → is_connected (hears_fault o t) ≡ is_connected t
fault_there None t = refl
fault_there (Some fault) t = refl

asks_there : (o : Option Msg) (t : Trail) → is_connected (asks o t) ≡ is_connected t
asks_there None t = refl
asks_there (Some m) t = refl

-- a part that is called, or else as it was; and one that is lost, or else as it was
called_there : (b now : Bool) (here other : Part) → is_connected here.trail ≡ true → is_connected other.trail ≡ now
    → is_connected (if b then here else other).trail ≡ (b || now)
called_there true now here other on same = on
called_there false now here other on same = same

lost_there : (b now : Bool) (here other : Part) → is_connected here.trail ≡ false → is_connected other.trail ≡ now
    → is_connected (if b then here else other).trail ≡ (not b && now)
lost_there true now here other off same = off
lost_there false now here other off same = same

abbrev IsThere : Bool → Part → Type 0
IsThere now part = is_connected part.trail ≡ now

there_is : (log : Log) (q : ℕ) → is_connected (trail log q) ≡ is_there log q
there_is [] q = refl
there_is (Dialled p name ∷ log) q =
    called_there (p.0 == q) (is_there log q) (called_part (part_of log q)) (part_of log q) refl (there_is log q)
there_is (NotDialled p name ∷ log) q =
    lost_there (p.0 == q) (is_there log q) (with_item (Lost mark.NotDialled) (part_of log q)) (part_of log q) refl
    (there_is log q)
there_is (Sent p bytes ∷ log) q =
    at_either (IsThere (is_there log q)) (p.0 == q)
    (record (part_of log q) { trail = asks (spelled bytes) (trail log q) }) (part_of log q)
    (λ is. asks_there (spelled bytes) (trail log q) ∙ there_is log q) (λ off. there_is log q)
there_is (SendFailed p ∷ log) q =
    lost_there (p.0 == q) (is_there log q) (with_item (Lost mark.SendFailed) (part_of log q)) (part_of log q) refl
    (there_is log q)
there_is (Closed p ∷ log) q =
    lost_there (p.0 == q) (is_there log q) (with_item (Lost mark.Closed) (part_of log q)) (part_of log q) refl
    (there_is log q)
there_is (Took (Got p piece) ∷ log) q =
    at_either (IsThere (is_there log q)) (p.0 == q) (heard_part piece (part_of log q)) (part_of log q)
    (λ is. let r : StreamRead = read_stream ((part_of log q).waits ++ piece) in
    fault_there r.fault (hears r.frames (trail log q)) ∙ hears_there r.frames (trail log q)
    ∙ there_is log q) (λ off. there_is log q)
there_is (Took (Gone p) ∷ log) q =
    lost_there (p.0 == q) (is_there log q) (with_item (Lost mark.Gone) (part_of log q)) (part_of log q) refl
    (there_is log q)
there_is (Took (Tick s) ∷ log) q = there_is log q
there_is (Took Ended ∷ log) q = there_is log q

-- where nobody who is there has shown another chain as long by its bytes, nobody has by what counts
pub none_shows : (log : Log) (blocks : List Block) → AreBytes log → IsLongest log blocks → ShowsNoOther log blocks
none_shows log blocks are longest q other on shows longer =
    let h = (heard_all log q are).heard in
    longest q h.ms other (sym (there_is log q) ∙ on) h.says
    (record { valid = shows.valid; within = shows.within; told = λ x is. h.shown x (shows.told x is) })
    (subst (λ n. n ≤ length other) (headers_length blocks) longer)

-- ---- who was dialled

item_called : (f : Frame) (t : Trail) → was_called (item_of f ∷ t) ≡ was_called t
item_called f t =
    elim (message_of f) as (λ r. was_called (item_of_read r ∷ t) ≡ was_called t) [ Ok m ↦ refl | Err e ↦ refl ]

hears_called : (fs : List Frame) (t : Trail) → was_called (hears fs t) ≡ was_called t
hears_called [] t = refl
hears_called (f ∷ fs) t = hears_called fs (item_of f ∷ t) ∙ item_called f t

fault_called : (o : Option FrameFault) (t : Trail) → was_called (hears_fault o t) ≡ was_called t
fault_called None t = refl
fault_called (Some fault) t = refl

asks_called : (o : Option Msg) (t : Trail) → was_called (asks o t) ≡ was_called t
asks_called None t = refl
asks_called (Some m) t = refl

dialled_called : (b was : Bool) (here other : Part) → was_called here.trail ≡ true → was_called other.trail ≡ was
    → was_called (if b then here else other).trail ≡ (b || was)
dialled_called true was here other on same = on
dialled_called false was here other on same = same

abbrev WasCalled : Bool → Part → Type 0
WasCalled was part = was_called part.trail ≡ was

pub called_is : (log : Log) (q : ℕ) → was_called (trail log q) ≡ was_dialled log q
called_is [] q = refl
called_is (Dialled p name ∷ log) q =
    dialled_called (p.0 == q) (was_dialled log q) (called_part (part_of log q)) (part_of log q) refl (called_is log q)
called_is (NotDialled p name ∷ log) q =
    at_either (WasCalled (was_dialled log q)) (p.0 == q) (with_item (Lost mark.NotDialled) (part_of log q))
    (part_of log q) (λ is. called_is log q) (λ off. called_is log q)
called_is (Sent p bytes ∷ log) q =
    at_either (WasCalled (was_dialled log q)) (p.0 == q)
    (record (part_of log q) { trail = asks (spelled bytes) (trail log q) }) (part_of log q)
    (λ is. asks_called (spelled bytes) (trail log q) ∙ called_is log q) (λ off. called_is log q)
called_is (SendFailed p ∷ log) q =
    at_either (WasCalled (was_dialled log q)) (p.0 == q) (with_item (Lost mark.SendFailed) (part_of log q))
    (part_of log q) (λ is. called_is log q) (λ off. called_is log q)
called_is (Closed p ∷ log) q =
    at_either (WasCalled (was_dialled log q)) (p.0 == q) (with_item (Lost mark.Closed) (part_of log q)) (part_of log q)
    (λ is. called_is log q) (λ off. called_is log q)
called_is (Took (Got p piece) ∷ log) q =
    at_either (WasCalled (was_dialled log q)) (p.0 == q) (heard_part piece (part_of log q)) (part_of log q)
    (λ is. let r : StreamRead = read_stream ((part_of log q).waits ++ piece) in
    fault_called r.fault (hears r.frames (trail log q)) ∙ hears_called r.frames (trail log q)
    ∙ called_is log q) (λ off. called_is log q)
called_is (Took (Gone p) ∷ log) q =
    at_either (WasCalled (was_dialled log q)) (p.0 == q) (with_item (Lost mark.Gone) (part_of log q)) (part_of log q)
    (λ is. called_is log q) (λ off. called_is log q)
called_is (Took (Tick s) ∷ log) q = called_is log q
called_is (Took Ended ∷ log) q = called_is log q
