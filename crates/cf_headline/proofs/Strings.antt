-- Each message that was said stands in what came, as it is written: so the strings that were hashed are among those
-- that came.
use Rattle.std.proofs.Common.{◌≡◌, ◌⊎◌, inl, inr, ℕ, ◌≤◌, List, [], ◌∷◌, ◌++◌, length, Option, Some, None, Result, Ok, Err, if◌then◌else◌, ◌==◌, refl, sym, ap, ◌∙◌, subst, append_assoc, arith}
use Rattle.std.proofs.lemmas.List.{append-nil}
use Rattle.std.specs.List.{flat_map, AllByRecursion}
use Rattle.cf_block.specs.declared.tx.Block.{Block}
use Rattle.cf_bytes.specs.Cut.{IsBytes}
use Rattle.cf_bytes.specs.Magic.{magic}
use Rattle.cf_frame.specs.declared.frame.Frame.{Frame}
use Rattle.cf_frame.specs.declared.frame.FrameFault.{FrameFault}
use Rattle.cf_frame.specs.Frame.{IsFrame, checksum, spelling}
use Rattle.cf_frame.specs.Stream.{StreamRead, read_stream}
use Rattle.cf_frame.proofs.Relations.{stream_whole}
use Rattle.cf_headers.specs.Chain.{IsIn, NoHashClash}
use Rattle.cf_msg.specs.declared.msg.Malformed.{Malformed}
use Rattle.cf_msg.specs.declared.msg.Msg.{Msg}
use Rattle.cf_msg.specs.Message.{frame_of}
use Rattle.cf_msg.specs.Reading.{message_of}
use Rattle.cf_msg.proofs.Table.{carried}
use Rattle.cf_peer.specs.Acts.{bytes_of, IsSendable}
use Rattle.cf_peer.specs.Asking.{HasSaid}
use Rattle.cf_peer.specs.declared.peer.Cause.TheVariants.{BadFrame}
use Rattle.cf_peer.specs.Trail.{Trail, Part, Refused, Asked, Passed, Lost, called_part, with_item, item_of, item_of_read, hears, hears_fault, heard_part, spelled, asks, part_of, trail}
use Rattle.cf_wires.specs.declared.event.Delivery.TheVariants.{Got, Gone, Tick, Ended}
use Rattle.cf_wires.specs.declared.event.Event.{Event}
use Rattle.cf_wires.specs.declared.event.Event.TheVariants.{Dialled, NotDialled, Sent, SendFailed, Closed, Took}
use Rattle.cf_wires.specs.declared.event.Mark.{Mark}
use Rattle.cf_wires.specs.declared.event.Mark.TheVariants as mark
use Rattle.cf_wires.specs.Log.{Log}
use Rattle.std.specs.Int.{w32, to_le_bytes}
use Rattle.cf_sync.specs.Fetching.{AreBytes}
use Rattle.cf_sync.specs.Sync.{strings_of, IsHashed}
use Rattle.cf_sync.proofs.Entries.{at_either}
use Rattle.cf_headline.specs.Headline.{bytes_from, StandsIn, IsCarried, IsString}
use Rattle.cf_headline.proofs.Again.{bytes_left, bytes_right, bytes_both}
use Rattle.cf_headline.proofs.Parts.{at_both}

-- ---- a frame that carries a message is that message as it is written

pub record IsWritten (f : Frame) (m : Msg) : Type 0 where
  pub fits : IsSendable m
  pub is : spelling f ≡ bytes_of m

payload_bytes : (f : Frame) → IsBytes (spelling f) → IsBytes f.payload
unfolding spelling
payload_bytes f h =
    bytes_right (magic ++ f.command ++ to_le_bytes w32 (length f.payload) ++ checksum f.payload) f.payload h

pub written : (f : Frame) (m : Msg) → IsFrame f → IsBytes (spelling f) → message_of f ≡ Ok m → IsWritten f m
written f m frame are reads =
    let spells = carried f m frame (payload_bytes f are) reads in
    let same : f ≡ frame_of m =
    ap (λ c. record { command = c; payload = f.payload }) spells.command_is
    ∙ ap (λ p. record { command = (frame_of m).command; payload = p }) spells.payload_is in
    record {
      fits =
          record {
            spelled = spells.fits;
            short = subst (λ (p : List ℕ). length p ≤ 4000000) spells.payload_is
                frame.payload;
          };
      is = ap spelling same;
    }

-- ---- a message that came

-- it stands in what had come from p by some moment
abbrev pub HasCome : Log → ℕ → Msg → Type 0
HasCome [] p m = ⊥
HasCome (e ∷ log) p m = StandsIn m (bytes_from (e ∷ log) p) ⊎ HasCome log p m

come_carried : (log : Log) (p : ℕ) (m : Msg) (bytes : List ℕ) → IsIn bytes (strings_of m) → HasCome log p m
    → IsCarried log bytes
come_carried [] p m bytes among come = absurd come
come_carried (e ∷ log) p m bytes among (inl now) = inl (p, (m, (now, among)))
come_carried (e ∷ log) p m bytes among (inr before) = inr (come_carried log p m bytes among before)

-- each message of a trail has come
abbrev AllCome : Log → ℕ → Trail → Type 0
AllCome log p t = (m : Msg) → HasSaid t m → HasCome log p m

come_on : (e : Event) (log : Log) (p : ℕ) (t : Trail) → AllCome log p t → AllCome (e ∷ log) p t
come_on e log p t all m said = inr (all m said)

flat_last : (fs : List Frame) (f : Frame) (rest : List ℕ)
    → flat_map spelling fs ++ (spelling f ++ rest) ≡ flat_map spelling (fs ++ f ∷ []) ++ rest
flat_last [] f rest = ap (λ l. l ++ rest) (sym (append-nil (spelling f)))
flat_last (g ∷ fs) f rest =
    append_assoc (spelling g) (flat_map spelling fs) (spelling f ++ rest)
    ∙ ap (λ l. spelling g ++ l) (flat_last fs f rest)
    ∙ sym (append_assoc (spelling g) (flat_map spelling (fs ++ f ∷ [])) rest)

each_last : (fs : List Frame) (f : Frame) → AllByRecursion IsFrame fs → IsFrame f
    → AllByRecursion IsFrame (fs ++ f ∷ [])
each_last [] f each one = (one, tt)
each_last (g ∷ fs) f each one = (each.0, each_last fs f each.1 one)

-- what came since p was dialled are whole frames and what waits, which are bytes, and each message has come
record Holds (bytes : List ℕ) (log : Log) (p : ℕ) (t : Trail) (waits : List ℕ) : Type 0 where
  waiting : IsBytes waits
  frames : List Frame
  each : AllByRecursion IsFrame frames
  joined : bytes ≡ flat_map spelling frames ++ waits
  all : AllCome log p t

item_holds : (bytes after : List ℕ) (e : Event) (log : Log) (p : ℕ) (f : Frame) (t : Trail) → IsFrame f
    → bytes ≡ bytes_from (e ∷ log) p
    → Holds bytes (e ∷ log) p t (spelling f ++ after) → Holds bytes (e ∷ log) p (item_of f ∷ t) after
item_holds bytes after e log p f t frame is h = record {
  waiting = bytes_right (spelling f) after h.waiting;
  frames = h.frames ++ f ∷ [];
  each = each_last h.frames f h.each frame;
  joined = h.joined ∙ flat_last h.frames f after;
  all = by_read (message_of f) refl;
} where
  by_read : (r : Result Msg Malformed) → message_of f ≡ r → AllCome (e ∷ log) p (item_of_read r ∷ t)
  by_read (Ok n) reads m (inl same) =
      let w = written f n frame (bytes_left (spelling f) after h.waiting) reads in
      subst (HasCome (e ∷ log) p) (sym same) (inl (record {
        fits = w.fits;
        frames = h.frames;
        each = h.each;
        rest = after;
        joined = sym is ∙ h.joined ∙ ap (λ l. flat_map spelling h.frames ++ (l ++ after)) w.is;
      }))
  by_read (Ok n) reads m (inr earlier) = h.all m earlier
  by_read (Err x) reads m said = h.all m said

hears_hold : (bytes rest : List ℕ) (e : Event) (log : Log) (p : ℕ) (fs : List Frame) (t : Trail)
    → AllByRecursion IsFrame fs → bytes ≡ bytes_from (e ∷ log) p
    → Holds bytes (e ∷ log) p t (flat_map spelling fs ++ rest) → Holds bytes (e ∷ log) p (hears fs t) rest
hears_hold bytes rest e log p [] t each is h = h
hears_hold bytes rest e log p (f ∷ fs) t each is h =
    hears_hold bytes rest e log p fs (item_of f ∷ t) each.1 is
    (item_holds bytes (flat_map spelling fs ++ rest) e log p f t each.0 is
    (subst (Holds bytes (e ∷ log) p t) (append_assoc (spelling f) (flat_map spelling fs) rest) h))

-- an item that says nothing
same_holds : (bytes waits : List ℕ) (log : Log) (p : ℕ) (t u : Trail) → ((m : Msg) → HasSaid u m → HasSaid t m)
    → Holds bytes log p t waits → Holds bytes log p u waits
same_holds bytes waits log p t u same h =
    record {
      waiting = h.waiting;
      frames = h.frames;
      each = h.each;
      joined = h.joined;
      all = λ m said.
          h.all m (same m said);
    }

fault_holds : (bytes waits : List ℕ) (log : Log) (p : ℕ) (o : Option FrameFault) (t : Trail) → Holds bytes log p t waits
    → Holds bytes log p (hears_fault o t) waits
fault_holds bytes waits log p None t h = h
fault_holds bytes waits log p (Some fault) t h =
    same_holds bytes waits log p t (Refused BadFrame ∷ t) (λ m said. said) h

asks_holds : (bytes waits : List ℕ) (log : Log) (p : ℕ) (o : Option Msg) (t : Trail) → Holds bytes log p t waits
    → Holds bytes log p (asks o t) waits
asks_holds bytes waits log p None t h = h
asks_holds bytes waits log p (Some m) t h = same_holds bytes waits log p t (Asked m ∷ t) (λ m said. said) h

-- one entry more, and it changes nothing
pass_holds : (bytes waits : List ℕ) (e : Event) (log : Log) (p : ℕ) (t : Trail) → Holds bytes log p t waits
    → Holds bytes (e ∷ log) p t waits
pass_holds bytes waits e log p t h =
    record { waiting = h.waiting; frames = h.frames; each = h.each; joined = h.joined; all = come_on e log p t h.all }

abbrev HoldsPart : Log → ℕ → List ℕ → Part → Type 0
HoldsPart log p bytes part = Holds bytes log p part.trail part.waits

piece_holds : (old piece : List ℕ) (e : Event) (log : Log) (p : ℕ) (part : Part) → IsBytes piece
    → old ++ piece ≡ bytes_from (e ∷ log) p
    → Holds old log p part.trail part.waits → HoldsPart (e ∷ log) p (old ++ piece) (heard_part piece part)
piece_holds old piece e log p part are is h =
    let s : StreamRead = read_stream (part.waits ++ piece) in
    let waiting : IsBytes (part.waits ++ piece) = bytes_both part.waits piece h.waiting are in
    let whole = stream_whole (part.waits ++ piece) waiting in
    let before : Holds (old ++ piece) (e ∷ log) p part.trail (part.waits ++ piece) = record {
      waiting = waiting;
      frames = h.frames;
      each = h.each;
      joined = ap (λ l. l ++ piece) h.joined ∙ append_assoc (flat_map spelling h.frames) part.waits piece;
      all = come_on e log p part.trail h.all;
    } in
    fault_holds (old ++ piece) s.rest (e ∷ log) p s.fault (hears s.frames part.trail)
    (hears_hold (old ++ piece) s.rest e log p s.frames part.trail whole.each is
    (subst (Holds (old ++ piece) (e ∷ log) p part.trail) whole.joined before))

-- ---- by the log

lost_holds : (bytes : List ℕ) (e : Event) (log : Log) (p : ℕ) (part : Part) (m : Mark) → HoldsPart log p bytes part
    → HoldsPart (e ∷ log) p bytes (with_item (Lost m) part)
lost_holds bytes e log p part m h =
    same_holds bytes part.waits (e ∷ log) p part.trail (Lost m ∷ part.trail) (λ n said. said)
    (pass_holds bytes part.waits e log p part.trail h)

holds : (log : Log) (p : ℕ) → AreBytes log → HoldsPart log p (bytes_from log p) (part_of log p)
holds [] p are =
    record { waiting = λ i. omega arith; frames = []; each = tt; joined = refl; all = λ m said. absurd said }
holds (Dialled q name ∷ log) p are =
    let h = holds log p are in
    at_both (HoldsPart (Dialled q name ∷ log) p) (q.0 == p) [] (bytes_from log p) (called_part (part_of log p))
    (part_of log p)
    (λ is. record {
      waiting = λ i. omega arith;
      frames = [];
      each = tt;
      joined = refl;
      all = λ m said.
          inr (h.all m said);
    })
    (λ off. pass_holds (bytes_from log p) (part_of log p).waits (Dialled q name) log p (trail log p) h)
holds (NotDialled q name ∷ log) p are =
    at_either (HoldsPart (NotDialled q name ∷ log) p (bytes_from log p)) (q.0 == p)
    (with_item (Lost mark.NotDialled) (part_of log p)) (part_of log p)
    (λ is. lost_holds (bytes_from log p) (NotDialled q name) log p (part_of log p) mark.NotDialled (holds log p are))
    (λ off. pass_holds (bytes_from log p) (part_of log p).waits (NotDialled q name) log p (trail log p)
    (holds log p are))
holds (Sent q bytes ∷ log) p are =
    let h = pass_holds (bytes_from log p) (part_of log p).waits (Sent q bytes) log p (trail log p) (holds log p are) in
    at_either (HoldsPart (Sent q bytes ∷ log) p (bytes_from log p)) (q.0 == p)
    (record (part_of log p) { trail = asks (spelled bytes) (trail log p) }) (part_of log p)
    (λ is. asks_holds (bytes_from log p) (part_of log p).waits (Sent q bytes ∷ log) p (spelled bytes) (trail log p) h)
    (λ off. h)
holds (SendFailed q ∷ log) p are =
    at_either (HoldsPart (SendFailed q ∷ log) p (bytes_from log p)) (q.0 == p)
    (with_item (Lost mark.SendFailed) (part_of log p)) (part_of log p)
    (λ is. lost_holds (bytes_from log p) (SendFailed q) log p (part_of log p) mark.SendFailed (holds log p are))
    (λ off. pass_holds (bytes_from log p) (part_of log p).waits (SendFailed q) log p (trail log p) (holds log p are))
holds (Closed q ∷ log) p are =
    at_either (HoldsPart (Closed q ∷ log) p (bytes_from log p)) (q.0 == p)
    (with_item (Lost mark.Closed) (part_of log p)) (part_of log p)
    (λ is. lost_holds (bytes_from log p) (Closed q) log p (part_of log p) mark.Closed (holds log p are))
    (λ off. pass_holds (bytes_from log p) (part_of log p).waits (Closed q) log p (trail log p) (holds log p are))
holds (Took (Got q piece) ∷ log) p are =
    at_both (HoldsPart (Took (Got q piece) ∷ log) p) (q.0 == p) (bytes_from log p ++ piece) (bytes_from log p)
    (heard_part piece (part_of log p)) (part_of log p)
    (λ is. piece_holds (bytes_from log p) piece (Took (Got q piece)) log p (part_of log p) are.0
    (ap (λ b. if b then bytes_from log p ++ piece else bytes_from log p) (sym is)) (holds log p are.1))
    (λ off. pass_holds (bytes_from log p) (part_of log p).waits (Took (Got q piece)) log p (trail log p)
    (holds log p are.1))
holds (Took (Gone q) ∷ log) p are =
    at_either (HoldsPart (Took (Gone q) ∷ log) p (bytes_from log p)) (q.0 == p)
    (with_item (Lost mark.Gone) (part_of log p)) (part_of log p)
    (λ is. lost_holds (bytes_from log p) (Took (Gone q)) log p (part_of log p) mark.Gone (holds log p are))
    (λ off. pass_holds (bytes_from log p) (part_of log p).waits (Took (Gone q)) log p (trail log p) (holds log p are))
holds (Took (Tick s) ∷ log) p are =
    same_holds (bytes_from log p) (part_of log p).waits (Took (Tick s) ∷ log) p (trail log p) (Passed s ∷ trail log p)
    (λ m said. said)
    (pass_holds (bytes_from log p) (part_of log p).waits (Took (Tick s)) log p (trail log p) (holds log p are))
holds (Took Ended ∷ log) p are =
    pass_holds (bytes_from log p) (part_of log p).waits (Took Ended) log p (trail log p) (holds log p are)

-- each message that was said has come
pub said_come : (log : Log) (p : ℕ) (m : Msg) → AreBytes log → HasSaid (trail log p) m → HasCome log p m
said_come log p m are said = (holds log p are).all m said

-- ---- the strings

hashed_string : (log : Log) (blocks : List Block) (bytes : List ℕ) → AreBytes log → IsHashed log blocks bytes
    → IsString log blocks bytes
hashed_string log blocks bytes are (inl first) = inl first
hashed_string log blocks bytes are (inr (inl came)) =
    inr (inl (come_carried log came.0 came.1.0 bytes came.1.2 (said_come log came.0 came.1.0 are came.1.1)))
hashed_string log blocks bytes are (inr (inr own)) = inr (inr own)

-- where no strings clash of those that stand in what came, none clash of those that were hashed
pub clash_hashed : (log : Log) (blocks : List Block) → AreBytes log → NoHashClash (IsString log blocks)
    → NoHashClash (IsHashed log blocks)
clash_hashed log blocks are none = record {
  apart =
      λ a b one two same. none.apart a b (hashed_string log blocks a are one) (hashed_string log blocks b are two) same;
  real = λ a one zero. none.real a (hashed_string log blocks a are one) zero;
}
