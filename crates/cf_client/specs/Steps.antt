-- machine: what each step of the client keeps.
use Rattle.std.specs.Prelude.{◌≡◌, ◌≢◌, ◌⊎◌, ℕ, ◌+◌, ◌<◌, ◌≤◌, true, List, [], ◌∷◌, ◌++◌, length, slice_set}
use Rattle.std.specs.List.{All}
use Rattle.cf_bytes.specs.declared.hash.Hash32.{Hash32}
use Rattle.cf_bytes.specs.declared.peer.PeerNo.{PeerNo}
use Rattle.cf_headers.specs.declared.store.HeaderStore.{Ghosts}
use Rattle.cf_msg.specs.declared.msg.Msg.{Msg}
use Rattle.cf_msg.specs.declared.msg.Msg.TheVariants.{GetCfheaders, GetCfilters, Ping}
use Rattle.cf_peer.specs.declared.act.Act.{Act}
use Rattle.cf_peer.specs.declared.act.Act.TheVariants.{Send}
use Rattle.cf_peer.specs.declared.mode.Mode.{Mode}
use Rattle.cf_peer.specs.declared.peer.Peer.{Peer}
use Rattle.cf_peer.specs.declared.mode.Mode.TheVariants.{Once, Following}
use Rattle.cf_wires.specs.declared.event.Delivery.{Delivery}
use Rattle.cf_wires.specs.declared.event.Delivery.TheVariants.{Got, Gone, Tick, Ended}
use Rattle.cf_wires.specs.declared.event.Event.TheVariants.{Took}
use Rattle.cf_peer.specs.Acts.{IsDoable, IsSendable}
use Rattle.cf_peer.specs.Asking.{pings}
use Rattle.cf_wires.specs.Log.{Log}
use Rattle.cf_peer.specs.Peer.{is_idle_peer, asked_for_block, asked_for_claims, asked_for_filters, asked_for_ping}
use Rattle.cf_peer.specs.Trail.{trail}
use Rattle.cf_sync.specs.Fetching.{is_after_tick}
use Rattle.cf_seek.specs.declared.spans.Wish.{Wish}
use Rattle.cf_seek.specs.declared.spans.Wish.TheVariants.{Nothing, Claims, Filters, Block, Test}
use Rattle.cf_tracker.specs.declared.tracker.Tracker.{Tracker}
use Rattle.cf_place.specs.declared.place.Place.{Place}
use Rattle.cf_place.specs.declared.place.Place.TheVariants.{Here, Lost}
use Rattle.cf_place.specs.Places.{Goes, AreCalm, AsksFor, CutFor, after, is_idle, is_settled, place_at}
use Rattle.cf_tracker.specs.Seen.{Seen, seen_of}
use Rattle.cf_hear.specs.Exposing.{IsUnexposed}
use Rattle.cf_hear.specs.Tracks.{HasOpened, Tracks}
use Rattle.cf_client.specs.Settled.{AreEntered, AreRight}
use Rattle.cf_client.specs.Order.{AsksOne}

-- what a step works on: the places, what was seen, and the acts so far
pub record Desk : Type 0 where
  pub places : List Place
  pub seen : Seen
  pub acts : List Act

abbrev pub desk : {H : Type 0} → {g : Ghosts H} → Tracker H g → List Place → List Act → Desk
desk tracker places acts = record { places = places; seen = seen_of tracker; acts = acts }

-- the desk stands for the log with the acts, each of which was allowed; and no connected peer is exposed by what was seen
pub record Stands (mode : Mode) (d : Desk) (log : Log) : Type 0 where
  pub goes : Goes (record { watch = d.seen.watch; mode = mode }) d.places d.acts log
  pub tracks : Tracks d.seen (after d.acts log)
  pub unexposed : IsUnexposed d.seen

-- at most nine places; tracked are the peers that are connected; and what is open to each agrees with what it claims
pub record IsInOrder (d : Desk) : Type 0 where
  pub few : length d.places ≤ 9
  pub entered : AreEntered d.places d.seen
  pub right : AreRight d.places d.seen.claims

-- how the log itself goes on: not at all, by a delivery, or as the send to a peer in use fails
abbrev pub Way : Type 1
Way = Log → Log → Type 0

abbrev pub Same : Way
Same log next = next ≡ log

-- not at all, right after a tick
abbrev pub Ticked : Way
Ticked log next = (next ≡ log) × (is_after_tick log ≡ true)

abbrev pub Taking : Delivery → Way
Taking d log next = next ≡ Took d ∷ log

abbrev pub CutOff : PeerNo → List Place → Way
CutOff p places log next = (p.0 < length places) × CutFor p log next

-- acts to which others were added
abbrev pub Extends : List Act → List Act → Type 0
Extends before now = (rest : List Act) × (now ≡ before ++ rest)

-- one step of a client of this mode, as the log goes on this way
pub record Moves (mode : Mode) (way : Way) (before now : Desk) : Type 0 where
  pub stands : (log next : Log) → way log next → Stands mode before log → Stands mode now next
  pub order : IsInOrder now
  pub watch : now.seen.watch ≡ before.seen.watch
  pub more : Extends before.acts now.acts
  pub doable : All IsDoable before.acts → All IsDoable now.acts
  pub calm : AreCalm before.places → AreCalm now.places

-- a peer to which nothing was open is sent a message, after the acts before, and what is kept of it changes in this way
pub record IsSent (i : ℕ) (m : Msg) (change : Peer → Peer) (places now : List Place) (acts more : List Act) : Type 0 where
  pub sendable : IsSendable m
  pub peer : Peer
  pub here : place_at places i ≡ Here peer
  pub idle : is_idle_peer peer ≡ true
  pub kept : now ≡ slice_set places i (Here (change peer))
  pub added : more ≡ acts ++ Send (record { 0 = i }) m ∷ []

-- a number is one above that of the last ping
abbrev pub IsNextPing : ℕ → Place → Type 0
IsNextPing number (Here peer) = number ≡ peer.pings + 1
IsNextPing number (Lost loss) = ⊥

-- the block with this hash is asked for
pub record IsSentFor (i : ℕ) (hash : Hash32) (places now : List Place) (acts more : List Act) : Type 0 where
  pub message : Msg
  pub asks : AsksFor hash message
  pub sent : IsSent i message (asked_for_block hash) places now acts more

-- the peer at this place was sent the question that a tracker wishes for; where it wishes for none nothing changed
abbrev pub IsSentAsWished : ℕ → Wish → List Place → List Place → List Act → List Act → Type 0
IsSentAsWished i Nothing places now acts more = (now ≡ places) × (more ≡ acts)
IsSentAsWished i (Claims span) places now acts more =
    IsSent i (GetCfheaders 0 span.start span.stop)
    (asked_for_claims (record { stop = span.stop; parent = span.parent; blocks = span.blocks.items }))
    places now acts more
IsSentAsWished i (Filters span) places now acts more =
    IsSent i (GetCfilters 0 span.start span.stop) (asked_for_filters span.blocks.items) places now acts more
IsSentAsWished i (Block hash) places now acts more = IsSentFor i hash places now acts more
IsSentAsWished i (Test trial) places now acts more =
    IsSent i (GetCfilters 0 trial.height trial.block) (asked_for_filters (trial.block ∷ [])) places now acts more

-- all numbers of pings were used for a connected peer
abbrev pub HasPingedOut : Place → Type 0
HasPingedOut (Here peer) = peer.pings ≡ 18446744073709551615
HasPingedOut (Lost loss) = ⊥

-- the peer at this place was sent a ping, its number one above that of the last; or nothing was to be sent: it isn't idle, or all numbers were used
abbrev pub IsPinged : ℕ → List Place → List Place → List Act → List Act → Type 0
IsPinged i places now acts more =
    ((number : ℕ) × (IsNextPing number (place_at places i) × IsSent i (Ping number) (asked_for_ping number) places now acts more))
    ⊎ ((now ≡ places) × (more ≡ acts) × (is_idle (place_at places i) ≡ true → HasPingedOut (place_at places i)))

-- with a tick a client that follows leaves nobody idle
abbrev pub HasPinged : Mode → Delivery → List Place → Type 0
HasPinged Once d places = Unit {0}
HasPinged Following (Got p piece) places = Unit {0}
HasPinged Following (Gone p) places = Unit {0}
HasPinged Following (Tick seconds) places = (p : ℕ) → is_idle (place_at places p) ≡ true → HasPingedOut (place_at places p)
HasPinged Following Ended places = Unit {0}

-- with a tick a client that follows leaves nobody idle but who had been sent all pings before
abbrev pub HasLeft : Mode → Delivery → List Place → Log → Type 0
HasLeft Once d places log = Unit {0}
HasLeft Following (Got p piece) places log = Unit {0}
HasLeft Following (Gone p) places log = Unit {0}
HasLeft Following (Tick seconds) places log =
    (p : ℕ) → is_idle (place_at places p) ≡ true → pings (trail log p) ≡ 18446744073709551615
HasLeft Following Ended places log = Unit {0}

-- the peer at this place is asked, if it is to be, and is settled; where nothing is open to it then, it is left as it was; nobody
-- else is asked or has its place changed, and of what was seen no more changes than what is open to it
pub record Asks (mode : Mode) (i : ℕ) (before now : Desk) : Type 0 where
  pub moves : Moves mode Same before now
  pub asked : AsksOne i (place_at before.places i) before.acts now.acts
  pub seen : HasOpened before.seen now.seen i
  pub settled : is_settled mode (place_at now.places i) ≡ true
  pub idle : is_idle (place_at now.places i) ≡ true → place_at now.places i ≡ place_at before.places i
  pub others : (p : ℕ) → p ≢ i → place_at now.places p ≡ place_at before.places p
