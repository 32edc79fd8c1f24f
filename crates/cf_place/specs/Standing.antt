-- statement: how a peer stands by its part of the log: what it was sent, how it was lost, and what is told of it at the end of a run.
use Rattle.std.specs.Prelude.{◌++◌, ◌≡◌, ◌⊎◌, ℕ, ℤ, ◌+◌, true, false, List, [], ◌∷◌, length, slice_index_or}
use Rattle.std.specs.List.{list_any}
use Rattle.cf_msg.specs.declared.msg.Msg.{Msg}
use Rattle.cf_msg.specs.declared.msg.Msg.TheVariants.{Version}
use Rattle.cf_msg.specs.Message.{is_version}
use Rattle.cf_peer.specs.declared.mode.Mode.TheVariants.{Following}
use Rattle.cf_peer.specs.declared.peer.Cause.{Cause}
use Rattle.cf_peer.specs.declared.peer.Cause.TheVariants.{SendFailed, Omits}
use Rattle.cf_wires.specs.declared.event.Mark.{Mark}
use Rattle.cf_wires.specs.declared.event.Mark.TheVariants as mark
use Rattle.cf_wires.specs.Log.{Log, tally_of}
use Rattle.cf_peer.specs.Trail.{Trail, Called, Lost as LostItem, trail, is_connected, ready, has_failed, replies_owed, replies_sent, IsClientVersion}
use Rattle.cf_peer.specs.Asking.{Deserves, claims, counted, given_filters}
use Rattle.cf_sync.specs.Blame.{HasOmitted}
use Rattle.cf_sync.specs.Fetching.{IsBusy, IsQuiet, IsConnected, IsOmitting, RightlyIn}
use Rattle.cf_sync.specs.Honesty.{messages_asked, was_called}
use Rattle.cf_place.specs.declared.place.Loss.{Loss}
use Rattle.cf_place.specs.declared.place.Loss.TheVariants.{NotDialled, Gone, Closed as ClosedFor}
use Rattle.cf_place.specs.declared.place.PeerEnd.{PeerEnd}
use Rattle.cf_place.specs.declared.place.PeerEnd.TheVariants.{Ready, Waiting, NotDialled as EndsNotDialled, Gone as EndsGone, Closed as EndsClosed}
use Rattle.cf_place.specs.declared.state.State.{State}
use Rattle.cf_place.specs.declared.state.State.TheVariants.{Working, Synced, NoPeers}

-- the first of the messages is the client's version, and no other is a version
abbrev pub IsGreetedBy : List Msg → Type 0
IsGreetedBy [] = ⊥
IsGreetedBy (m ∷ more) = IsClientVersion m × (list_any is_version more ≡ false)

-- A peer was sent the client's version before all else, and no other version; and what is owed to its messages: a verack, and a pong for
-- each ping after its version, in order.
pub record IsAnswered (t : Trail) : Type 0 where
  pub greeted : IsGreetedBy (messages_asked t)
  pub replies : replies_sent t ≡ replies_owed t

-- the first loss since a peer was dialled, by how it was lost and what had passed before
abbrev pub FirstLost : (Mark → Trail → Type 0) → Trail → Type 0
FirstLost P [] = ⊥
FirstLost P (Called ∷ t) = ⊥
FirstLost P (LostItem m ∷ t) = ((is_connected t ≡ true) × P m t) ⊎ ((is_connected t ≡ false) × FirstLost P t)
FirstLost P (_ ∷ t) = FirstLost P t

-- it went, or was never there: it wasn't closed, and no send to it failed
abbrev pub IsGoing : Mark → Trail → Type 0
IsGoing mark.NotDialled t = Unit {0}
IsGoing mark.Gone t = Unit {0}
IsGoing _ t = ⊥

-- it was closed: for an omission, of which its own part doesn't tell, or for a cause that it deserved then
abbrev pub IsShutFor : Cause → Mark → Trail → Type 0
IsShutFor cause mark.Closed t = (cause ≡ Omits) ⊎ Deserves t cause
IsShutFor cause _ t = ⊥

-- how a peer was lost: it was never called; a send to it failed; or none did, and before all else it went or was closed
abbrev pub LostBy : Loss → Trail → Type 0
LostBy NotDialled t = (was_called t ≡ false) × (has_failed t ≡ false)
LostBy Gone t = (has_failed t ≡ false) × FirstLost IsGoing t
LostBy (ClosedFor cause) t = ((cause ≡ SendFailed) × (has_failed t ≡ true)) ⊎ ((has_failed t ≡ false) × FirstLost (IsShutFor cause) t)

-- a peer isn't connected, and was lost so
pub record IsLost (loss : Loss) (t : Trail) : Type 0 where
  pub off : is_connected t ≡ false
  pub by : LostBy loss t

-- unless a send to it has failed, each reply that is owed to what counts of its words was sent
abbrev pub IsReplied : Trail → Type 0
IsReplied t = has_failed t ≡ false → replies_sent t ≡ replies_owed (counted t)

-- a peer's part up to a moment after which it gave no filter and claimed nothing
pub record IsUpToLast (t so_far : Trail) : Type 0 where
  pub later : Trail
  pub joined : t ≡ later ++ so_far
  pub gave : given_filters (counted t) ≡ given_filters (counted so_far)
  pub claimed : claims (counted t) ≡ claims (counted so_far)

-- unless a send to it has failed, each reply that is owed to what counts of its words up to such a moment was sent
abbrev pub IsRepliedFirst : Trail → Type 0
IsRepliedFirst t = has_failed t ≡ false → (so_far : Trail) × IsUpToLast t so_far × (replies_sent t ≡ replies_owed (counted so_far))

-- who is closed was answered; who omits something, up to the words that exposed it
abbrev pub IsRepliedIn : Log → ℕ → Type 0
IsRepliedIn log p = IsReplied (trail log p) ⊎ (IsOmitting log p × IsRepliedFirst (trail log p))

-- where all in the log was rightly done (`RightlyIn Following`, which the rule of any client gives), who omits something is closed
-- for that, and for nothing else
abbrev pub IsNamed : Log → ℕ → Cause → Type 0
IsNamed log p cause = RightlyIn Following log → IsOmitting log p → cause ≡ Omits

-- what the client says of its state
abbrev pub IsState : State → Log → Type 0
IsState Working log = IsBusy log
IsState Synced log = IsQuiet log × ((p : ℕ) × IsConnected log p)
IsState NoPeers log = (p : ℕ) → is_connected (trail log p) ≡ false

-- what a version tells of the client: its moment and its number
pub record Greeting : Type 0 where
  pub moment : ℤ
  pub number : ℕ

-- a version tells this greeting; of any other message nothing is said
abbrev pub TellsGreeting : Greeting → Msg → Type 0
TellsGreeting greeting (Version version services time to from nonce agent height relay) = (time ≡ greeting.moment) × (nonce ≡ greeting.number)
TellsGreeting greeting m = Unit {0}

-- what an end says of a peer's trail: connected with its handshake over, connected with its handshake open, or how it was lost
abbrev pub EndTells : PeerEnd → Trail → Type 0
EndTells Ready t = (is_connected t ≡ true) × (ready t ≡ true)
EndTells Waiting t = (is_connected t ≡ true) × (ready t ≡ false)
EndTells EndsNotDialled t = IsLost NotDialled t
EndTells EndsGone t = IsLost Gone t
EndTells (EndsClosed cause) t = IsLost (ClosedFor cause) t

-- there is an end for each peer that was dialled, in the order of their numbers, and each tells how its peer stands; who was closed for an
-- omission omitted something then, and where all in the log was rightly done (`RightlyIn`), who was closed while it omitted something ends so
pub record EndsTell (ends : List PeerEnd) (log : Log) : Type 0 where
  pub omitted : (i : ℕ) → slice_index_or ends i EndsNotDialled ≡ EndsClosed Omits → HasOmitted log (i + 1)
  pub named : RightlyIn Following log → (i : ℕ) → HasOmitted log (i + 1) → slice_index_or ends i EndsNotDialled ≡ EndsClosed Omits
  pub count : length ends ≡ (tally_of log).dials
  pub each : (i : ℕ) → EndTells (slice_index_or ends i EndsNotDialled) (trail log (i + 1))
