-- machine: what the places of a client hold of a log.
use Rattle.std.specs.Prelude.{◌≡◌, ◌≢◌, ℕ, ◌+◌, ◌≤◌, Bool, true, false, not, ◌&&◌, if◌then◌else◌, List, [], ◌∷◌, map, length, slice_index_or}
use Rattle.std.specs.List.{list_any}
use Rattle.cf_bytes.specs.declared.peer.PeerNo.{PeerNo}
use Rattle.cf_bytes.specs.declared.hash.Hash32.{Hash32}
use Rattle.cf_headers.specs.Chain.{Chain, no_hash, locator_of}
use Rattle.cf_msg.specs.declared.msg.Msg.{Msg}
use Rattle.cf_msg.specs.declared.msg.Msg.TheVariants.{GetHeaders, GetData}
use Rattle.cf_peer.specs.declared.act.Act.{Act}
use Rattle.cf_peer.specs.declared.act.Act.TheVariants.{Send, Close}
use Rattle.cf_wires.specs.declared.event.Event.{Event}
use Rattle.cf_wires.specs.declared.event.Event.TheVariants.{Sent, Closed}
use Rattle.cf_peer.specs.declared.mode.Mode.{Mode}
use Rattle.cf_peer.specs.declared.mode.Mode.TheVariants.{Following}
use Rattle.cf_peer.specs.declared.peer.Cause.TheVariants.{Omits}
use Rattle.cf_peer.specs.declared.peer.Peer.{Peer}
use Rattle.cf_peer.specs.Acts.{bytes_of, IsSendable}
use Rattle.cf_wires.specs.Log.{Log, tally_of}
use Rattle.cf_peer.specs.Trail.{Part, part_of, trail, is_connected, has_failed, IsClientVersion}
use Rattle.cf_peer.specs.Asking.{block_entry, counted, fetched_blocks, given_filters}
use Rattle.cf_peer.specs.Peer.{Holds, calm, busy, wants, is_ready_peer, is_idle_peer}
use Rattle.cf_sync.specs.Blame.{HasOmitted}
use Rattle.cf_sync.specs.Fetching.{MaySendIn, DeservesIn, RightlyIn, Rule}
use Rattle.cf_holds.specs.Due.{IsCalledFor}
use Rattle.cf_holds.specs.HeldTests.{KeepsTrials}
use Rattle.cf_sync.specs.Planned.{IsSameGiven}
use Rattle.cf_place.specs.declared.place.Place.{Place}
use Rattle.cf_place.specs.declared.place.Place.TheVariants.{Here, Lost}
use Rattle.cf_place.specs.declared.place.Loss.{Loss}
use Rattle.cf_place.specs.declared.place.Loss.TheVariants.{NotDialled, Gone, Closed as ClosedFor}
use Rattle.cf_place.specs.declared.place.PeerEnd.{PeerEnd}
use Rattle.cf_place.specs.declared.place.PeerEnd.TheVariants.{Ready, Waiting, NotDialled as EndsNotDialled, Gone as EndsGone, Closed as EndsClosed}
use Rattle.cf_place.specs.declared.state.State.{State}
use Rattle.cf_place.specs.declared.state.State.TheVariants.{Working, Synced, NoPeers}
use Rattle.cf_place.specs.Standing.{IsAnswered, IsLost, IsRepliedIn, IsNamed, Greeting, TellsGreeting}

-- a connected peer: what is kept of it, the bytes that wait, and all that was owed to it was sent
pub record Keeps (peer : Peer) (part : Part) : Type 0 where
  pub holds : Holds peer part.trail
  pub waits : peer.framer ≡ part.waits
  pub answered : IsAnswered part.trail

-- what is held of a peer
abbrev pub Fits : Place → Part → Type 0
Fits (Here peer) part = Keeps peer part
Fits (Lost loss) part = IsLost loss part.trail

-- what is held of a peer that was never dialled
abbrev pub nobody : Place
nobody = Lost NotDialled

-- what is held of the peer with this number
abbrev pub place_at : List Place → ℕ → Place
place_at places p = slice_index_or places p nobody

-- the places stand for the log: one for each peer that was dialled, at its number, and nobody's at 0; who was closed for an omission
-- omitted something then, and where all in the log was rightly done (`RightlyIn`), who was closed while it omitted something is named so
pub record PlacesStand (places : List Place) (log : Log) : Type 0 where
  pub count : length places ≡ (tally_of log).dials + 1
  pub omitted : (p : ℕ) → place_at places p ≡ Lost (ClosedFor Omits) → HasOmitted log p
  pub named : RightlyIn Following log → (p : ℕ) → HasOmitted log p → place_at places p ≡ Lost (ClosedFor Omits)
  pub each : (p : ℕ) → Fits (place_at places p) (part_of log p)

-- what an act leaves in the log when it is done
abbrev pub entry_of : Act → Event
entry_of (Send p m) = Sent p (bytes_of m)
entry_of (Close p cause) = Closed p

-- the log once acts are done in order
abbrev pub after : List Act → Log → Log
after [] log = log
after (a ∷ acts) log = after acts (entry_of a ∷ log)

-- an act may be done by a client that goes by this rule: what it sends may be sent to that peer, and what it asks about blocks is called for; whom it closes was
-- answered, and is closed for what it omits where it does
abbrev pub MayAct : Rule → Act → Log → Type 0
MayAct rule (Send p m) log = (p.0 ≤ (tally_of log).dials) × IsSendable m × MaySendIn rule.mode log p.0 m × IsCalledFor rule log p.0 m
MayAct rule (Close p cause) log = (p.0 ≤ (tally_of log).dials) × DeservesIn log p.0 cause × IsRepliedIn log p.0 × IsNamed log p.0 cause

-- each act may be done when the ones before it are
abbrev pub Allowed : Rule → List Act → Log → Type 0
Allowed rule [] log = Unit {0}
Allowed rule (a ∷ acts) log = MayAct rule a log × Allowed rule acts (entry_of a ∷ log)

-- the places stand for the log with the acts, each of which was allowed
pub record Goes (rule : Rule) (places : List Place) (acts : List Act) (log : Log) : Type 0 where
  pub stand : PlacesStand places (after acts log)
  pub allowed : Allowed rule acts log

-- no open request is 60 seconds old or more
abbrev pub is_calm : Place → Bool
is_calm (Here peer) = calm peer
is_calm (Lost loss) = true

-- so it is of each peer
abbrev pub AreCalm : List Place → Type 0
AreCalm places = (p : ℕ) → is_calm (place_at places p) ≡ true

-- nothing is open to a connected peer; filters or a block are
abbrev pub is_idle : Place → Bool
is_idle (Here peer) = is_idle_peer peer
is_idle (Lost loss) = false

-- a client of this mode is to ask it for headers
abbrev pub is_wanting : Mode → Place → Bool
is_wanting mode (Here peer) = wants mode peer
is_wanting mode (Lost loss) = false

-- between two calls of the client no open request is late, and nobody is left to ask for headers
abbrev pub is_settled : Mode → Place → Bool
is_settled mode place = is_calm place && not (is_wanting mode place)

-- the same log, but that a send to p failed: p's part alone differs, and p is cut off, and isn't one that has omitted something
pub record CutFor (p : PeerNo) (log cut : Log) : Type 0 where
  pub others : (q : ℕ) → q ≢ p.0 → part_of cut q ≡ part_of log q
  pub off : is_connected (trail cut p.0) ≡ false
  pub broken : has_failed (trail cut p.0) ≡ true
  pub brought : fetched_blocks (counted (trail cut p.0)) ≡ fetched_blocks (counted (trail log p.0))
  pub came : given_filters (counted (trail cut p.0)) ≡ given_filters (counted (trail log p.0))
  pub gave : IsSameGiven log cut
  pub tests : KeepsTrials log cut
  pub omitted : (q : ℕ) → q ≢ p.0 → HasOmitted log q → HasOmitted cut q
  pub unomitted : (q : ℕ) → q ≢ p.0 → HasOmitted cut q → HasOmitted log q
  pub cleared : HasOmitted cut p.0 → ⊥
  pub rightly : RightlyIn Following cut → RightlyIn Following log
  pub dials : (tally_of cut).dials ≡ (tally_of log).dials

-- something is open to the peer of this place; it is connected
abbrev pub is_busy : Place → Bool
is_busy (Here peer) = busy peer
is_busy (Lost loss) = false

-- the peer of this place is connected
abbrev pub is_here : Place → Bool
is_here (Here peer) = true
is_here (Lost loss) = false

-- the state, by what is held of the peers
abbrev pub state_of : List Place → State
state_of places = if list_any is_busy places then Working else if list_any is_here places then Synced else NoPeers

-- the question for headers above the tip of a chain
abbrev pub AsksAbove : Chain → Msg → Type 0
AsksAbove chain (GetHeaders version locator stop) = (version ≡ 70016) × (map (λ (h : Hash32). h.0) locator ≡ locator_of chain) × (stop.0 ≡ no_hash)
AsksAbove chain m = ⊥

-- the question for one block
abbrev pub AsksFor : Hash32 → Msg → Type 0
AsksFor hash (GetData entries) = entries ≡ block_entry hash ∷ []
AsksFor hash m = ⊥

-- a message that can be sent, and is the client's version
pub record IsGreeting (m : Msg) : Type 0 where
  pub sendable : IsSendable m
  pub ours : IsClientVersion m

-- an act sends no version but one that tells this greeting
abbrev pub ActTells : Greeting → Act → Type 0
ActTells greeting (Send p m) = TellsGreeting greeting m
ActTells greeting (Close p cause) = Unit {0}

-- the one act is to send the client's version, which tells this
pub record Greets (ours : Greeting) (p : PeerNo) (acts : List Act) : Type 0 where
  pub message : Msg
  pub alone : acts ≡ Send p message ∷ []
  pub greeting : IsGreeting message
  pub tells : TellsGreeting ours message

-- a message that can be sent and asks for headers above a chain
pub record IsQuestion (chain : Chain) (m : Msg) : Type 0 where
  pub sendable : IsSendable m
  pub asks : AsksAbove chain m

-- a message that can be sent and asks for a block
pub record IsFetch (hash : Hash32) (m : Msg) : Type 0 where
  pub sendable : IsSendable m
  pub asks : AsksFor hash m

-- how a peer stands
abbrev pub end_by : Loss → PeerEnd
end_by NotDialled = EndsNotDialled
end_by Gone = EndsGone
end_by (ClosedFor cause) = EndsClosed cause

-- how a peer stands, by what is kept of it: connected with its handshake over, or still open, or how it was lost
abbrev pub end_of : Place → PeerEnd
end_of (Here peer) = if is_ready_peer peer then Ready else Waiting
end_of (Lost loss) = end_by loss
