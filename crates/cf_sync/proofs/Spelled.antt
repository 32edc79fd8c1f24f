-- What is read of bytes has a spelling.
use Rattle.std.proofs.Common.{◌≡◌, inl, inr, ℕ, zero, suc, List, [], ◌∷◌, ◌++◌, length, Option, Some, None, Result, Ok, Err, ◌==◌, refl, sym, subst, arith, append_assoc}
use Rattle.std.specs.Int.{w32, to_le_bytes}
use Rattle.std.specs.List.{flat_map, AllByRecursion}
use Rattle.cf_block.specs.declared.header.Header.{Header}
use Rattle.cf_block.specs.Header.{IsHeader}
use Rattle.cf_frame.specs.declared.frame.Frame.{Frame}
use Rattle.cf_frame.specs.declared.frame.FrameFault.{FrameFault}
use Rattle.cf_frame.specs.Frame.{checksum, spelling, IsFrame}
use Rattle.cf_bytes.specs.Cut.{IsBytes}
use Rattle.cf_bytes.specs.Magic.{magic}
use Rattle.cf_frame.specs.Stream.{StreamRead, read_stream}
use Rattle.cf_frame.proofs.Relations.{stream_whole}
use Rattle.cf_headers.specs.Chain.{IsIn}
use Rattle.cf_msg.specs.declared.msg.Malformed.{Malformed}
use Rattle.cf_msg.specs.declared.msg.Msg.{Msg}
use Rattle.cf_msg.specs.Message.{HasSpelling}
use Rattle.cf_msg.specs.Reading.{message_of}
use Rattle.cf_msg.proofs.Table.{carried}
use Rattle.cf_wires.specs.declared.event.Delivery.TheVariants.{Got, Gone, Tick, Ended}
use Rattle.cf_wires.specs.declared.event.Event.TheVariants.{Dialled, NotDialled, Sent, SendFailed, Closed, Took}
use Rattle.cf_wires.specs.declared.event.Mark.TheVariants as mark
use Rattle.cf_wires.specs.Log.{Log}
use Rattle.cf_peer.specs.Trail.{Trail, Part, Called, Said, Refused, Asked, Passed, Lost, called_part, with_item, item_of, item_of_read, hears, hears_fault, part_after, heard_part, spelled, asks, part_of, trail}
use Rattle.cf_peer.specs.Asking.{HasSaid}
use Rattle.cf_sync.specs.Fetching.{AreBytes}
use Rattle.cf_sync.proofs.Entries.{at_either}

bytes_left : (xs ys : List ℕ) → IsBytes (xs ++ ys) → IsBytes xs
bytes_left [] ys h i = omega arith
bytes_left (x ∷ xs) ys h zero = h zero
bytes_left (x ∷ xs) ys h (suc i) = bytes_left xs ys (λ j. h (suc j)) i

bytes_right : (xs ys : List ℕ) → IsBytes (xs ++ ys) → IsBytes ys
bytes_right [] ys h = h
bytes_right (x ∷ xs) ys h = bytes_right xs ys (λ j. h (suc j))

bytes_both : (xs ys : List ℕ) → IsBytes xs → IsBytes ys → IsBytes (xs ++ ys)
bytes_both [] ys a b i = b i
bytes_both (x ∷ xs) ys a b zero = a zero
bytes_both (x ∷ xs) ys a b (suc i) = bytes_both xs ys (λ j. a (suc j)) b i

-- frames of bytes carry bytes
abbrev CarriesBytes : Frame → Type 0
CarriesBytes f = IsBytes f.payload

payload_bytes : (f : Frame) → IsBytes (spelling f) → CarriesBytes f
unfolding spelling
payload_bytes f h = bytes_right (magic ++ f.command ++ to_le_bytes w32 (length f.payload) ++ checksum f.payload) f.payload h

all_bytes : (fs : List Frame) (rest : List ℕ) → IsBytes (flat_map spelling fs ++ rest) → AllByRecursion CarriesBytes fs × IsBytes rest
all_bytes [] rest h = (tt, h)
all_bytes (f ∷ fs) rest h =
    let both : IsBytes (spelling f ++ (flat_map spelling fs ++ rest)) = subst IsBytes (append_assoc (spelling f) (flat_map spelling fs) rest) h in
    let more = all_bytes fs rest (bytes_right (spelling f) (flat_map spelling fs ++ rest) both) in
    ((payload_bytes f (bytes_left (spelling f) (flat_map spelling fs ++ rest) both), more.0), more.1)

-- every message of a part has a spelling
abbrev pub AllSpelled : Trail → Type 0
AllSpelled [] = Unit {0}
AllSpelled (Called ∷ t) = AllSpelled t
AllSpelled (Said m ∷ t) = HasSpelling m × AllSpelled t
AllSpelled (Refused c ∷ t) = AllSpelled t
AllSpelled (Asked m ∷ t) = AllSpelled t
AllSpelled (Passed s ∷ t) = AllSpelled t
AllSpelled (Lost w ∷ t) = AllSpelled t

item_spelled : (f : Frame) (t : Trail) (r : Result Msg Malformed) → IsFrame f → CarriesBytes f → message_of f ≡ r → AllSpelled t → AllSpelled (item_of_read r ∷ t)
item_spelled f t (Ok m) a b e h = ((carried f m a b e).fits, h)
item_spelled f t (Err x) a b e h = h

hears_spelled : (fs : List Frame) (t : Trail) → AllByRecursion IsFrame fs → AllByRecursion CarriesBytes fs → AllSpelled t → AllSpelled (hears fs t)
hears_spelled [] t a b h = h
hears_spelled (f ∷ fs) t a b h = hears_spelled fs (item_of f ∷ t) a.1 b.1 (item_spelled f t (message_of f) a.0 b.0 refl h)

fault_spelled : (o : Option FrameFault) (t : Trail) → AllSpelled t → AllSpelled (hears_fault o t)
fault_spelled None t h = h
fault_spelled (Some fault) t h = h

record OfBytes (part : Part) : Type 0 where
  waits : IsBytes part.waits
  all : AllSpelled part.trail

read_bytes : (bytes : List ℕ) (t : Trail) → IsBytes bytes → AllSpelled t → OfBytes (part_after (read_stream bytes) t)
read_bytes bytes t h all =
    let r : StreamRead = read_stream bytes in
    let whole = stream_whole bytes h in
    let parts = all_bytes r.frames r.rest (subst IsBytes whole.joined h) in
    record { waits = parts.1; all = fault_spelled r.fault (hears r.frames t) (hears_spelled r.frames t whole.each parts.0 all) }

asks_spelled : (o : Option Msg) (t : Trail) → AllSpelled t → AllSpelled (asks o t)
asks_spelled None t h = h
asks_spelled (Some m) t h = h

of_bytes : (log : Log) (p : ℕ) → AreBytes log → OfBytes (part_of log p)
of_bytes [] p h = record { waits = λ i. omega arith; all = tt }
of_bytes (Dialled q name ∷ log) p h = let before = of_bytes log p h in
    at_either OfBytes (q.0 == p) (called_part (part_of log p)) (part_of log p) (λ is. record { waits = λ i. omega arith; all = before.all }) (λ off. before)
of_bytes (NotDialled q name ∷ log) p h = let before = of_bytes log p h in
    at_either OfBytes (q.0 == p) (with_item (Lost mark.NotDialled) (part_of log p)) (part_of log p) (λ is. record { waits = before.waits; all = before.all }) (λ off. before)
of_bytes (Sent q bytes ∷ log) p h = let before = of_bytes log p h in
    at_either OfBytes (q.0 == p) (record (part_of log p) { trail = asks (spelled bytes) (trail log p) }) (part_of log p)
    (λ is. record { waits = before.waits; all = asks_spelled (spelled bytes) (trail log p) before.all }) (λ off. before)
of_bytes (SendFailed q ∷ log) p h = let before = of_bytes log p h in
    at_either OfBytes (q.0 == p) (with_item (Lost mark.SendFailed) (part_of log p)) (part_of log p) (λ is. record { waits = before.waits; all = before.all }) (λ off. before)
of_bytes (Closed q ∷ log) p h = let before = of_bytes log p h in
    at_either OfBytes (q.0 == p) (with_item (Lost mark.Closed) (part_of log p)) (part_of log p) (λ is. record { waits = before.waits; all = before.all }) (λ off. before)
of_bytes (Took (Got q piece) ∷ log) p h = let before = of_bytes log p h.1 in
    at_either OfBytes (q.0 == p) (heard_part piece (part_of log p)) (part_of log p)
    (λ is. read_bytes ((part_of log p).waits ++ piece) (trail log p) (bytes_both (part_of log p).waits piece before.waits h.0) before.all) (λ off. before)
of_bytes (Took (Gone q) ∷ log) p h = let before = of_bytes log p h in
    at_either OfBytes (q.0 == p) (with_item (Lost mark.Gone) (part_of log p)) (part_of log p) (λ is. record { waits = before.waits; all = before.all }) (λ off. before)
of_bytes (Took (Tick s) ∷ log) p h = let before = of_bytes log p h in record { waits = before.waits; all = before.all }
of_bytes (Took Ended ∷ log) p h = of_bytes log p h

one_spelled : (t : Trail) (m : Msg) → AllSpelled t → HasSaid t m → HasSpelling m
one_spelled [] m h s = absurd s
one_spelled (Called ∷ t) m h s = one_spelled t m h s
one_spelled (Said n ∷ t) m h (inl e) = subst HasSpelling (sym e) h.0
one_spelled (Said n ∷ t) m h (inr s) = one_spelled t m h.1 s
one_spelled (Refused c ∷ t) m h s = one_spelled t m h s
one_spelled (Asked n ∷ t) m h s = one_spelled t m h s
one_spelled (Passed k ∷ t) m h s = one_spelled t m h s
one_spelled (Lost w ∷ t) m h s = one_spelled t m h s

-- each message that was received has a spelling
pub said_spelled : (log : Log) (p : ℕ) (m : Msg) → AreBytes log → HasSaid (trail log p) m → HasSpelling m
said_spelled log p m h s = one_spelled (trail log p) m (of_bytes log p h).all s

pub header_fits : (h : Header) (hs : List Header) → AllByRecursion IsHeader hs → IsIn h hs → IsHeader h
header_fits h [] all i = absurd i
header_fits h (g ∷ hs) all (inl e) = subst IsHeader (sym e) all.0
header_fits h (g ∷ hs) all (inr i) = header_fits h hs all.1 i
