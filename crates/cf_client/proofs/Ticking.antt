-- After a tick a client that follows waits for something of each connected peer.
use Rattle.std.proofs.Common.{◌≡◌, ◌⊎◌, inl, inr, ℕ, List, [], ◌∷◌, ◌++◌, map, get_or, Bool, true, false, refl, sym, ◌∙◌, ap, subst}
use Rattle.std.proofs.lemmas.Bool.{and_left, and_right, both_ways, cases_Bool, cases_eq, false≢true, false_from_ne_true, not_from_true}
use Rattle.std.proofs.lemmas.List.Elements.{All-append, All-same, All-weaker}
use Rattle.std.proofs.lemmas.List.Folds.{list_any_at}
use Rattle.std.proofs.lemmas.List.Sums.{AllPass-from_list_all}
use Rattle.std.specs.List.{All, list_all, list_any}
use Rattle.std.specs.Prelude.{not}
use Rattle.cf_bytes.specs.declared.peer.PeerNo.{PeerNo}
use Rattle.cf_peer.specs.declared.act.Act.{Act}
use Rattle.cf_peer.specs.declared.act.Act.TheVariants.{Send, Close}
use Rattle.cf_peer.specs.declared.mode.Mode.{Mode}
use Rattle.cf_peer.specs.declared.mode.Mode.TheVariants.{Once, Following}
use Rattle.cf_peer.specs.Asking.{is_open, is_ping, is_request, pings}
use Rattle.cf_peer.specs.Peer.{is_idle_peer}
use Rattle.cf_peer.specs.Trail.{Part, is_connected, part_of, trail}
use Rattle.cf_peer.proofs.Peers.{open_by}
use Rattle.cf_wires.specs.declared.event.Delivery.{Delivery}
use Rattle.cf_wires.specs.declared.event.Delivery.TheVariants.{Got, Gone, Tick, Ended}
use Rattle.cf_wires.specs.declared.event.Event.TheVariants.{Closed}
use Rattle.cf_wires.specs.Log.{Log}
use Rattle.cf_place.specs.declared.place.Place.{Place}
use Rattle.cf_place.specs.declared.place.Place.TheVariants.{Here, Lost}
use Rattle.cf_place.specs.Places.{Fits, PlacesStand, after, is_idle, place_at}
use Rattle.cf_client.specs.Order.{AddsQuestions, ArePrepared, ClosesLate, IsToIdle, is_asking, is_pinging}
use Rattle.cf_client.specs.Stands.{ArePinged, AreTicked, AsksNone}
use Rattle.cf_client.specs.Steps.{HasLeft, HasPinged, HasPingedOut}
use Rattle.cf_client.proofs.Ordering.{shut}
use Rattle.cf_client.proofs.Standing.{closed_here, closed_others}

-- a connected peer that waits for nothing was sent all pings that have numbers
place_pinged : (place : Place) (part : Part) → Fits place part → is_connected part.trail ≡ true
    → (is_idle place ≡ true → HasPingedOut place)
    → (is_open part.trail ≡ true) ⊎ (pings part.trail ≡ 18446744073709551615)
place_pinged (Here peer) part keeps on out = elim (cases_Bool (is_idle_peer peer)) [
  | inl idle ↦ inr (sym keeps.holds.numbered ∙ out idle)
  | inr busy ↦ inl (open_by peer part.trail keeps.holds ∙ ap (λ (b : Bool). not b) busy)
]
place_pinged (Lost loss) part lost on out = absurd (both_ways (is_connected part.trail) lost.off on)

-- what was asked after the pings leaves nobody idle that wasn't
pub are_pinged : (mode : Mode) (d : Delivery) (before now : List Place) (log : Log) → HasPinged mode d before
    → ((p : ℕ) → is_idle (place_at now p) ≡ true → place_at now p ≡ place_at before p) → PlacesStand now log
    → ArePinged mode d log
are_pinged Once d before now log pinged same stand = tt
are_pinged Following (Got p piece) before now log pinged same stand = tt
are_pinged Following (Gone p) before now log pinged same stand = tt
are_pinged Following (Tick seconds) before now log pinged same stand = λ p on.
    place_pinged (place_at now p) (part_of log p) (stand.each p) on
    (λ idle. subst HasPingedOut (sym (same p idle)) (pinged p (ap is_idle (sym (same p idle)) ∙ idle)))
are_pinged Following Ended before now log pinged same stand = tt

-- nothing but a tick has anybody pinged
abbrev pub is_tick : Delivery → Bool
is_tick (Got p piece) = false
is_tick (Gone p) = false
is_tick (Tick seconds) = true
is_tick Ended = false

pub pinged_else : (mode : Mode) (d : Delivery) (places : List Place) → is_tick d ≡ false → HasPinged mode d places
pinged_else Once d places none = tt
pinged_else Following (Got p piece) places none = tt
pinged_else Following (Gone p) places none = tt
pinged_else Following (Tick seconds) places none = absurd (false≢true (sym none))
pinged_else Following Ended places none = tt

pub left_else : (mode : Mode) (d : Delivery) (places : List Place) (log : Log) → is_tick d ≡ false → HasLeft mode d places log
left_else Once d places log none = tt
left_else Following (Got p piece) places log none = tt
left_else Following (Gone p) places log none = tt
left_else Following (Tick seconds) places log none = absurd (false≢true (sym none))
left_else Following Ended places log none = tt

-- who is closed is sent no ping by that
closed_pings : (q : PeerNo) (log : Log) (p : ℕ) → pings (trail (Closed q ∷ log) p) ≡ pings (trail log p)
closed_pings q log p = elim (cases_eq p q.0) [
  | inl same ↦ subst (λ (k : ℕ). pings (trail (Closed q ∷ log) k) ≡ pings (trail log k)) (sym same)
      (ap (λ (part : Part). pings part.trail) (closed_here q (part_of log q.0)))
  | inr other ↦ ap (λ (part : Part). pings part.trail) (closed_others q p (part_of log p) other)
]

shut_pings : (ns : List ℕ) (log : Log) (p : ℕ) → pings (trail (after (map shut ns) log) p) ≡ pings (trail log p)
shut_pings [] log p = refl
shut_pings (n ∷ ns) log p =
    let q : PeerNo = record { 0 = n } in
    shut_pings ns (Closed q ∷ log) p ∙ closed_pings q log p

place_left : (place : Place) (part : Part) → Fits place part → HasPingedOut place → pings part.trail ≡ 18446744073709551615
place_left (Here peer) part keeps out = sym keeps.holds.numbered ∙ out
place_left (Lost loss) part lost out = absurd out

-- whom the pings leave idle was so before them, and had been sent all of them before anybody was closed
pub left_by : (closed now : List Place) (before acts : List Act) (log : Log) → before ≡ [] → ClosesLate before acts
    → PlacesStand closed (after acts log) → ((p : ℕ) → is_idle (place_at now p) ≡ true → HasPingedOut (place_at now p))
    → ((p : ℕ) → is_idle (place_at now p) ≡ true → place_at now p ≡ place_at closed p)
    → (p : ℕ) → is_idle (place_at now p) ≡ true → pings (trail log p) ≡ 18446744073709551615
left_by closed now before acts log none closes stand out same p idle =
    let left = place_left (place_at closed p) (part_of (after acts log) p) (stand.each p) (subst HasPingedOut (same p idle) (out p idle)) in
    let is : acts ≡ map shut closes.closed = closes.added ∙ ap (λ (xs : List Act). xs ++ map shut closes.closed) none in
    sym (shut_pings closes.closed log p) ∙ sym (ap (λ (xs : List Act). pings (trail (after xs log) p)) is) ∙ left

-- what is owed, who is closed, and pings put no question but pings
owed_asks : (log : Log) (a : Act) → is_asking a ≡ false → AsksNone log a
owed_asks log (Send p m) is = inl (and_left (is_request m) (not (is_ping m)) is)
owed_asks log (Close p cause) is = tt

told_asks : (log : Log) (acts : List Act) → list_any is_asking acts ≡ false → All (AsksNone log) acts
told_asks log acts none = λ k d lt.
    let owed = false_from_ne_true (is_asking (get_or acts k d))
    (λ asks. both_ways (list_any is_asking acts) none (list_any_at is_asking acts k d lt asks)) in
    owed_asks log (get_or acts k d) owed

ping_asks : (log : Log) (a : Act) → is_pinging a ≡ true → AsksNone log a
ping_asks log (Send p m) is = inl (and_right (is_request m) (not (is_ping m)) (not_from_true (is_ping m) is))
ping_asks log (Close p cause) is = tt

pings_ask : (log : Log) (acts : List Act) → list_all is_pinging acts ≡ true → All (AsksNone log) acts
pings_ask log acts all = λ k d lt. ping_asks log (get_or acts k d) (AllPass-from_list_all is_pinging acts all k d lt)

-- who is asked was idle, and so had been sent all pings
idle_asks : (places : List Place) (log : Log)
    → ((p : ℕ) → is_idle (place_at places p) ≡ true → pings (trail log p) ≡ 18446744073709551615)
    → (a : Act) → IsToIdle places a → AsksNone log a
idle_asks places log left (Send p m) idle = inr (left p.0 idle)
idle_asks places log left (Close p cause) idle = tt

pub are_ticked : (mode : Mode) (d : Delivery) (places : List Place) (before acts : List Act) (log : Log) → ArePrepared before
    → HasLeft mode d places log → AddsQuestions places before acts → AreTicked mode d acts log
are_ticked Once d places before acts log ready left adds = tt
are_ticked Following (Got p piece) places before acts log ready left adds = tt
are_ticked Following (Gone p) places before acts log ready left adds = tt
are_ticked Following (Tick seconds) places before acts log ready left adds =
    let first = All-append (AsksNone log) ready.told ready.pinged (told_asks log ready.told ready.first.owed)
    (pings_ask log ready.pinged ready.next.pings) in
    let last = All-weaker (IsToIdle places) (AsksNone log) (idle_asks places log left) adds.asked adds.idle in
    All-same (AsksNone log) acts ((ready.told ++ ready.pinged) ++ adds.asked)
    (adds.added ∙ ap (λ (xs : List Act). xs ++ adds.asked) ready.split)
    (All-append (AsksNone log) (ready.told ++ ready.pinged) adds.asked first last)
are_ticked Following Ended places before acts log ready left adds = tt
