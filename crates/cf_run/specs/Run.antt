-- statement: a run of a client over wires.
use Rattle.std.specs.Prelude.{◌≡◌, ◌⊎◌, ℕ, ◌+◌, ◌≤◌, Bool, true, false, List, [], ◌∷◌, length, map, take, reverse, Option, Some, IfSome, IsSome}
use Rattle.std.specs.List.{list_any}
use Rattle.cf_bytes.specs.Outside.{HasRisen}
use Rattle.cf_bytes.specs.declared.hash.Hash32.{Hash32}
use Rattle.cf_bytes.specs.declared.peer.PeerNo.{PeerNo}
use Rattle.cf_msg.specs.declared.msg.Msg.{Msg}
use Rattle.cf_msg.specs.Message.{command_of}
use Rattle.cf_peer.specs.declared.mode.Mode.TheVariants.{Once, Following}
use Rattle.cf_wires.specs.declared.event.Delivery.{Delivery}
use Rattle.cf_wires.specs.declared.event.Delivery.TheVariants.{Got, Gone, Tick, Ended}
use Rattle.cf_bytes.specs.Cut.{IsBytes}
use Rattle.cf_wires.specs.declared.event.Dial.{Dial}
use Rattle.cf_wires.specs.declared.event.Event.{Event}
use Rattle.cf_wires.specs.declared.event.Event.TheVariants.{Dialled, NotDialled, Sent, SendFailed, Closed, Took}
use Rattle.cf_wires.specs.declared.event.Mark.{Mark}
use Rattle.cf_wires.specs.declared.event.Mark.TheVariants as mark
use Rattle.cf_wires.specs.Log.{Log, Told, Tally, tally_of, mark_of, dials}
use Rattle.cf_wires.specs.Wires.{Made}
use Rattle.cf_peer.specs.Trail.{trail, spelled}
use Rattle.cf_peer.specs.declared.mode.Mode.{Mode}
use Rattle.cf_peer.specs.Asking.{is_open, pings}
use Rattle.cf_scan.specs.declared.history.Entry.{Entry}
use Rattle.cf_headers.specs.Chain.{NoHashClash}
use Rattle.cf_sync.specs.Blame.{AreBlamed}
use Rattle.cf_sync.specs.Fetching.{AreBytes, IsBusy, IsQuiet, IsConnected, RightlyIn, Rule, is_after_tick, DeservesIn}
use Rattle.cf_holds.specs.Due.{ArePlanned}
use Rattle.cf_sync.specs.Planned.{is_untold}
use Rattle.cf_sync.specs.Sync.{HasAskedIn, IsHashed}
use Rattle.cf_sync.specs.Sync as sync
use Rattle.cf_run.specs.declared.outcome.End.{End}
use Rattle.cf_run.specs.declared.outcome.End.TheVariants.{Synced, NoPeers, Tired, Ended as EndedFirst}
use Rattle.cf_place.specs.declared.state.State.TheVariants.{Synced as IsSynced, NoPeers as HasNoPeers}
use Rattle.cf_run.specs.declared.trace.TraceLine.{TraceLine}
use Rattle.cf_run.specs.declared.trace.TraceLine.TheVariants.{Sent as SentLine, Closed as ClosedLine}
use Rattle.cf_place.specs.Standing.{IsNamed, IsRepliedIn, IsState}
use Rattle.cf_client.specs.Blameless.{AreAskedOut, IsBlameless, IsInnocent, AreAnswered}

-- what was delivered are bytes
abbrev pub AreBytesOf : Delivery → Type 0
AreBytesOf (Got p piece) = IsBytes piece
AreBytesOf (Gone p) = Unit {0}
AreBytesOf (Tick s) = Unit {0}
AreBytesOf Ended = Unit {0}

-- where the log is told: what came were bytes, what was sent might be sent, who was closed deserved it, and a delivery was taken only while something was
-- open, or by a client that follows while a peer was connected
abbrev pub IsRight : Mode → Told → Type 0
IsRight mode t = IfSome t.log (λ log. AreBytes log × RightlyIn mode log)

-- At a moment between two calls of the client: nobody who is connected deserves a cause, nor claims a filter that was tested and omits something; each was sent the client's version first, and what is
-- owed to its messages; and each peer to which a send has failed was closed.
pub record IsOrderly (log : Log) : Type 0 where
  pub innocent : IsInnocent log
  pub blameless : IsBlameless log
  pub answered : AreAnswered log
  pub told : (p : ℕ) → is_untold log p ≡ false

-- so it was whenever a delivery was taken; a send was tried to a connected peer alone, and who was closed was answered before
abbrev pub WasOrderly : Log → Type 0
WasOrderly [] = Unit {0}
WasOrderly (SendFailed p ∷ log) = IsConnected log p.0 × WasOrderly log
WasOrderly (Closed p ∷ log) = IsRepliedIn log p.0 × WasOrderly log
WasOrderly (Took d ∷ log) = IsOrderly log × WasOrderly log
WasOrderly (_ ∷ log) = WasOrderly log

-- the peers are numbered from 1 in the order in which they were dialled
abbrev pub AreNumbered : Log → Type 0
AreNumbered [] = Unit {0}
AreNumbered (Dialled p name ∷ log) = (p.0 ≡ (tally_of log).dials + 1) × AreNumbered log
AreNumbered (NotDialled p name ∷ log) = (p.0 ≡ (tally_of log).dials + 1) × AreNumbered log
AreNumbered (_ ∷ log) = AreNumbered log

-- nothing was taken yet
abbrev pub IsUntaken : Log → Type 0
IsUntaken log = ((tally_of log).taken ≡ 0) × ((tally_of log).ended ≡ 0)

-- all peers were dialled before the first delivery was taken
abbrev pub AreDialledFirst : Log → Type 0
AreDialledFirst [] = Unit {0}
AreDialledFirst (Dialled p name ∷ log) = IsUntaken log × AreDialledFirst log
AreDialledFirst (NotDialled p name ∷ log) = IsUntaken log × AreDialledFirst log
AreDialledFirst (_ ∷ log) = AreDialledFirst log

-- a line of the trace tells what was sent to the peer
abbrev pub IsSentLine : PeerNo → List ℕ → TraceLine → Type 0
IsSentLine p bytes (SentLine q command) = (q ≡ p) × ((m : Msg) × (spelled bytes ≡ Some m) × (command ≡ command_of m))
IsSentLine p bytes (ClosedLine q cause) = ⊥

-- a line of the trace tells that the peer was closed, for a cause that it deserved and that is right by `IsNamed`
abbrev pub IsClosedLine : Log → PeerNo → TraceLine → Type 0
IsClosedLine log p (SentLine q command) = ⊥
IsClosedLine log p (ClosedLine q cause) = (q ≡ p) × DeservesIn log p.0 cause × IsNamed log p.0 cause

-- the lines, the newest first, are those of the log: one for each message sent, and one for each close, with a cause that the peer deserved then, and
-- that is what it omitted where it did
abbrev pub IsTraceOf : Log → List TraceLine → Type 0
IsTraceOf [] [] = Unit {0}
IsTraceOf [] (line ∷ lines) = ⊥
IsTraceOf (Sent p bytes ∷ log) [] = ⊥
IsTraceOf (Sent p bytes ∷ log) (line ∷ lines) = IsSentLine p bytes line × IsTraceOf log lines
IsTraceOf (Closed p ∷ log) [] = ⊥
IsTraceOf (Closed p ∷ log) (line ∷ lines) = IsClosedLine log p line × IsTraceOf log lines
IsTraceOf (_ ∷ log) lines = IsTraceOf log lines

-- the lines that are kept of these: all of them where they are wanted, and else none
abbrev pub kept_lines : Bool → List TraceLine → List TraceLine
kept_lines true lines = lines
kept_lines false lines = []

-- the names that were dialled, in order
abbrev pub names_of : Log → List (List ℕ)
names_of log = map (λ (d : Dial). d.name) (dials log)

-- the same, where the log is told
abbrev pub HasNames : List (List ℕ) → Told → Type 0
HasNames called t = IfSome t.log (λ log. names_of log ≡ called)

-- right after a tick something is open to each connected peer of a client that follows, unless all numbers of pings were used
abbrev pub IsTicked : Mode → Log → Type 0
IsTicked Once log = Unit {0}
IsTicked Following log = is_after_tick log ≡ true → (p : ℕ) → IsConnected log p
    → (is_open (trail log p) ≡ true) ⊎ (pings (trail log p) ≡ 18446744073709551615)

-- so it was whenever a delivery was taken
abbrev pub WerePinged : Mode → Log → Type 0
WerePinged mode [] = Unit {0}
WerePinged mode (Took d ∷ log) = IsTicked mode log × WerePinged mode log
WerePinged mode (_ ∷ log) = WerePinged mode log

-- whenever a delivery was taken, each connected peer with nothing open had been asked all that the rule asks of it
abbrev pub WereAskedOut : Rule → Log → Type 0
WereAskedOut rule [] = Unit {0}
WereAskedOut rule (Took d ∷ log) = AreAskedOut rule log × WereAskedOut rule log
WereAskedOut rule (_ ∷ log) = WereAskedOut rule log

-- a dial or a send has failed
abbrev pub is_failure : Event → Bool
is_failure (NotDialled p name) = true
is_failure (SendFailed p) = true
is_failure _ = false

-- a dial or a send has failed in this log
abbrev pub HasFailed : Log → Type 0
HasFailed log = list_any is_failure log ≡ true

-- no dial and no send has failed, where the log is told
abbrev pub NoFailure : Told → Type 0
NoFailure t = IfSome t.log (λ log. list_any is_failure log ≡ false)

-- from one state of the wires to a later one: the count of faults never falls, and where a dial or a send has failed in between it has risen; a log that is told
-- goes on to be; the script stays
pub record Course (t u : Told) (f g : ℕ) (s r : Option Made) : Type 0 where
  pub later : f ≤ g
  pub blamed : NoFailure t → NoFailure u ⊎ HasRisen f g
  pub logged : IsSome t.log → IsSome u.log
  pub script : r ≡ s

-- so many of the names were dialled, the first of them in order
pub record HasDialled (names : List (List ℕ)) (t : Told) : Type 0 where
  pub most : t.tally.dials ≤ length names
  pub first : HasNames (take t.tally.dials names) t

-- why a run ends
abbrev pub IsEnd : End → Log → Type 0
IsEnd Synced log = IsState IsSynced log
IsEnd NoPeers log = IsState HasNoPeers log
IsEnd Tired log = IsBusy log
IsEnd EndedFirst log = (before : Log) × ((log ≡ Took Ended ∷ before) × IsBusy before)

-- What a run has done by a moment between two calls of the client: all went as it was planned, in order and in time, and the names were dialled first, in
-- order.
pub record WasRun (rule : Rule) (called : List (List ℕ)) (log : Log) : Type 0 where
  pub planned : ArePlanned rule log
  pub was_orderly : WasOrderly log
  pub orderly : IsOrderly log
  pub numbered : AreNumbered log
  pub first : AreDialledFirst log
  pub named : names_of log ≡ called
  pub pinged : WerePinged rule.mode log
  pub ticked : IsTicked rule.mode log
  pub asked_out : WereAskedOut rule log

-- What a run that ended so has done, by its log. With nothing open each connected peer was heard out, and its filter header is known at each block that its own
-- chain shares with the best one; and each of the best chain's blocks is settled. With nothing open what each claims of the fetched blocks on which they differ was
-- tested, and nobody is left whose filter omits something (where no strings clash).
pub record RanTo (rule : Rule) (end : End) (height : ℕ) (hash : Hash32) (entries : List Entry) (lines : List TraceLine) (called : List (List ℕ)) (log : Log) : Type 0 where
  pub asked : HasAskedIn rule.mode rule.watch height hash entries log
  pub settled : end ≡ Synced → sync.FollowedIn rule.mode rule.watch height hash entries log
  pub blames : NoHashClash (IsHashed log []) → IsQuiet log → AreBlamed log asked.told.chain
  pub run : WasRun rule called log
  pub traced : IsTraceOf log (reverse lines)
  pub why : IsEnd end log

-- not dialled, gone or closed
abbrev pub is_lost : Mark → Bool
is_lost mark.NotYet = false
is_lost mark.Dialled = false
is_lost mark.NotDialled = true
is_lost mark.Gone = true
is_lost mark.Closed = true
is_lost mark.SendFailed = false

-- each peer that was tried was not dialled, has gone or was closed
abbrev pub NobodyLeft : Tally → Type 0
NobodyLeft tally = (p : ℕ) → 1 ≤ p → p ≤ tally.dials → is_lost (mark_of tally p) ≡ true
