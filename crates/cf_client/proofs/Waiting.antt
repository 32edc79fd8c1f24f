-- What waits of a peer that deserves nothing is shorter than a header and the longest payload.
use Rattle.std.proofs.Common.{max, get_or, subst, ◌≡◌, ℕ, zero, suc, ◌+◌, ◌<◌, List, [], ◌∷◌, ◌++◌, length, Option, Some, None, Ok, Err, Bool, true, false, if◌then◌else◌, refl, sym, ap, ◌∙◌, arith}
use Rattle.std.specs.Prelude.{◌==◌}
use Rattle.cf_frame.specs.declared.frame.FrameFault.{FrameFault}
use Rattle.cf_frame.specs.Reading.{Front, front_of}
use Rattle.cf_frame.specs.Stream.{StreamRead, read_stream}
use Rattle.cf_frame.proofs.Fields.{front_shorter, front_none}
use Rattle.cf_frame.proofs.Relations.{waits_few}
use Rattle.cf_frame.proofs.Streams.{stream_frame, stream_waits, stream_bad}
use Rattle.cf_wires.specs.Log.{Log}
use Rattle.cf_wires.specs.declared.event.Delivery.TheVariants.{Got, Gone, Tick, Ended}
use Rattle.cf_wires.specs.declared.event.Event.{Event}
use Rattle.cf_wires.specs.declared.event.Event.TheVariants.{Dialled, NotDialled, Sent, SendFailed, Closed, Took}
use Rattle.cf_msg.specs.declared.msg.Msg.{Msg}
use Rattle.cf_peer.specs.Trail.{Trail, Part, part_of, trail, went_on, heard_part, called_part, asks, spelled, hears, hears_fault, part_after}
use Rattle.cf_peer.specs.Asking.{verdict}
use Rattle.cf_place.specs.declared.place.Place.{Place}
use Rattle.cf_place.specs.declared.place.Place.TheVariants.{Here, Lost as NotHere}
use Rattle.cf_place.specs.Places.{Fits, nobody, place_at, PlacesStand}
use Rattle.cf_sync.proofs.Counted.{first_none}
use Rattle.cf_client.proofs.Standing.{any_default}
use Rattle.cf_client.specs.Holding.{greatest_below, waiting_at, most_at, bytes_waiting, most_waiting}

-- ---- what a stream leaves

rest_case : (bytes : List ℕ) (r : Front) → front_of bytes ≡ r → ((more : List ℕ) → length more < length bytes → (read_stream more).fault ≡ None → front_of (read_stream more).rest ≡ Ok None)
    → (read_stream bytes).fault ≡ None → front_of (read_stream bytes).rest ≡ Ok None
rest_case bytes (Ok (Some x)) e on clean =
    let step = stream_frame bytes x.0 x.1 e in
    ap (λ (read : StreamRead). front_of read.rest) step ∙ on x.1 (front_shorter bytes x.0 x.1 e) (sym (ap (λ (read : StreamRead). read.fault) step) ∙ clean)
rest_case bytes (Ok None) e on clean = ap (λ (read : StreamRead). front_of read.rest) (stream_waits bytes e) ∙ e
rest_case bytes (Err fault) e on clean = absurd (let no : Some fault ≡ None = sym (ap (λ (read : StreamRead). read.fault) (stream_bad bytes fault e)) ∙ clean in cc)

rest_within : (n : ℕ) (bytes : List ℕ) → length bytes < n → (read_stream bytes).fault ≡ None → front_of (read_stream bytes).rest ≡ Ok None
rest_within zero bytes few clean = absurd (omega (arith, few))
rest_within (suc n) bytes few clean = rest_case bytes (front_of bytes) refl (λ more less c. rest_within n more (omega (arith, few, less)) c) clean

pub rest_waits : (bytes : List ℕ) → (read_stream bytes).fault ≡ None → front_of (read_stream bytes).rest ≡ Ok None
rest_waits bytes clean = rest_within (suc (length bytes)) bytes (omega arith) clean

-- ---- what waits of a peer

abbrev IsWaiting : Part → Type 0
IsWaiting part = verdict part.trail ≡ None → front_of part.waits ≡ Ok None

no_fault : (o : Option FrameFault) (t : Trail) → verdict (hears_fault o t) ≡ None → o ≡ None
no_fault None t clean = refl
no_fault (Some fault) t clean = (let no = (first_none (verdict t) _ clean).1 in cc)

waits_read : (r : StreamRead) (t : Trail) → (r.fault ≡ None → front_of r.rest ≡ Ok None) → IsWaiting (part_after r t)
waits_read r t rest clean = rest (no_fault r.fault (hears r.frames t) clean)

waits_if : (b : Bool) (x y : Part) → IsWaiting x → IsWaiting y → IsWaiting (if b then x else y)
waits_if true x y one other = one
waits_if false x y one other = other

waits_asked : (o : Option Msg) (part : Part) → IsWaiting part → IsWaiting (record part { trail = asks o part.trail })
waits_asked None part w = w
waits_asked (Some m) part w = w

waits_on : (e : Event) (p : ℕ) (part : Part) → IsWaiting part → IsWaiting (went_on e p part)
waits_on (Dialled q name) p part w = waits_if (q.0 == p) (called_part part) part (λ clean. front_none) w
waits_on (NotDialled q name) p part w = waits_if (q.0 == p) _ part w w
waits_on (Sent q bytes) p part w = waits_if (q.0 == p) (record part { trail = asks (spelled bytes) part.trail }) part (waits_asked (spelled bytes) part w) w
waits_on (SendFailed q) p part w = waits_if (q.0 == p) _ part w w
waits_on (Closed q) p part w = waits_if (q.0 == p) _ part w w
waits_on (Took (Got q piece)) p part w = waits_if (q.0 == p) (heard_part piece part) part (waits_read (read_stream (part.waits ++ piece)) part.trail (rest_waits (part.waits ++ piece))) w
waits_on (Took (Gone q)) p part w = waits_if (q.0 == p) _ part w w
waits_on (Took (Tick s)) p part w = w
waits_on (Took Ended) p part w = w

waits_in : (log : Log) (p : ℕ) → IsWaiting (part_of log p)
waits_in [] p = λ clean. front_none
waits_in (e ∷ log) p = waits_on e p (part_of log p) (waits_in log p)

pub few_bytes : (log : Log) (p : ℕ) → verdict (trail log p) ≡ None → length (part_of log p).waits < 4000024
few_bytes log p clean = waits_few (part_of log p).waits (waits_in log p clean)

-- ---- at the places

-- what waits at a place is what the log says of its peer
fits_waiting : (place : Place) (part : Part) → Fits place part → waiting_at place ≡ bytes_waiting part
fits_waiting (Here peer) part k =
    ap (λ (bytes : List ℕ). length bytes) k.waits
    ∙ ap (λ (b : Bool). if b then length part.waits else 0) (sym k.holds.on)
fits_waiting (NotHere loss) part f = ap (λ (b : Bool). if b then length part.waits else 0) (sym f.off)

fits_few : (place : Place) (log : Log) (p : ℕ) → Fits place (part_of log p) → waiting_at place < 4000024
fits_few (Here peer) log p k =
    subst (λ (bytes : List ℕ). length bytes < 4000024) (sym k.waits) (few_bytes log p k.holds.clean)
fits_few (NotHere loss) log p f = omega arith

greatest_same : (f g : ℕ → ℕ) → ((p : ℕ) → f p ≡ g p) → (n : ℕ) → greatest_below f n ≡ greatest_below g n
greatest_same f g same zero = refl
greatest_same f g same (suc n) =
    ap (λ (k : ℕ). max k (f n)) (greatest_same f g same n) ∙ ap (max (greatest_below g n)) (same n)

max_less : (a b c : ℕ) → a < c → b < c → max a b < c
max_less a b c one other = omega (arith, one, other)

greatest_few : (f : ℕ → ℕ) (c : ℕ) → 0 < c → ((p : ℕ) → f p < c) → (n : ℕ) → greatest_below f n < c
greatest_few f c some few zero = some
greatest_few f c some few (suc n) = max_less (greatest_below f n) (f n) c (greatest_few f c some few n) (few n)

pub most_is : (places : List Place) (log : Log) → PlacesStand places log → most_at places (length places) ≡ most_waiting log
most_is places log stand =
    greatest_same (λ (p : ℕ). waiting_at (place_at places p)) (λ (p : ℕ). bytes_waiting (part_of log p))
    (λ p. fits_waiting (place_at places p) (part_of log p) (stand.each p)) (length places)
    ∙ ap (greatest_below (λ (p : ℕ). bytes_waiting (part_of log p))) stand.count

pub most_few : (places : List Place) (log : Log) → PlacesStand places log → most_at places (length places) < 4000024
most_few places log stand =
    greatest_few (λ (p : ℕ). waiting_at (place_at places p)) 4000024 (omega arith)
    (λ p. fits_few (place_at places p) log p (stand.each p)) (length places)

-- one place more
pub most_more : (places : List Place) (i most bytes next : ℕ) (place : Place) → i < length places → most ≡ most_at places i
    → bytes ≡ waiting_at place → place ≡ get_or places i place → next ≡ max most bytes → next ≡ most_at places (i + 1)
most_more places i most bytes next place lt so this is e =
    let step : i + 1 ≡ suc i = omega arith in
    let there : place ≡ place_at places i = is ∙ any_default places i place nobody lt in
    e ∙ ap (λ (k : ℕ). max k bytes) so
    ∙ ap (max (most_at places i)) (this ∙ ap waiting_at there)
    ∙ ap (most_at places) (sym step)
