-- machine: what a run keeps from one step to the next, and what each step does of it.
use Rattle.std.specs.Prelude.{◌≡◌, ◌≢◌, ◌⊎◌, ℕ, ◌+◌, ◌≤◌, ◌<◌, ◌==◌, ◌||◌, Bool, true, false, List, [], ◌∷◌, ◌++◌, replicate, reverse, slice_index_or, Option, Some, None}
use Rattle.std.specs.List.{sum_by, list_any}
use Rattle.cf_headers.specs.declared.store.HeaderStore.{Ghosts}
use Rattle.cf_match.specs.declared.matcher.Matcher.{Ghosts as Judges}
use Rattle.cf_peer.specs.declared.act.Act.{Act}
use Rattle.cf_peer.specs.declared.act.Act.TheVariants.{Send, Close}
use Rattle.cf_peer.specs.declared.mode.Mode.{Mode}
use Rattle.cf_peer.specs.declared.mode.Mode.TheVariants.{Once, Following}
use Rattle.cf_wires.specs.Log.{Log, Told, Tally, Tells, tally_of}
use Rattle.cf_wires.specs.Wires.{Made}
use Rattle.cf_peer.specs.Trail.{trail, is_connected, has_failed}
use Rattle.cf_peer.specs.Asking.{given_filters}
use Rattle.cf_sync.specs.Blame.{HasOmitted}
use Rattle.cf_sync.specs.Fetching.{IsSameFetched, Rule, RightlyIn, AreBytes, counted_part}
use Rattle.cf_holds.specs.Due.{ArePlanned}
use Rattle.cf_sync.specs.Planned.{is_untold, IsPlanned}
use Rattle.cf_client.specs.declared.client.Client.{Client}
use Rattle.cf_run.specs.declared.outcome.End.{End}
use Rattle.cf_run.specs.declared.outcome.End.TheVariants.{Synced, NoPeers, Tired, Ended as EndedFirst}
use Rattle.cf_run.specs.declared.progress.Progress.{Progress}
use Rattle.cf_run.specs.declared.trace.Trace.{Trace}
use Rattle.cf_run.specs.declared.trace.TraceLine.{TraceLine}
use Rattle.cf_run.specs.declared.progress.SendState.{SendState}
use Rattle.cf_run.specs.declared.progress.SendState.TheVariants.{Fine, Pending, Known}
use Rattle.cf_place.specs.Places.{after, Allowed}
use Rattle.cf_client.specs.Stands.{Reflects, rule_by}
use Rattle.cf_run.specs.Texts.{PutBefore, PutBy}
use Rattle.cf_run.specs.Run.{WasOrderly, AreNumbered, AreDialledFirst, IsTraceOf, kept_lines, names_of, HasNames, IsTicked, WereAskedOut, WerePinged, Course, IsEnd}

-- how the sends to a peer have gone
abbrev pub state_at : List SendState → ℕ → SendState
state_at sends p = slice_index_or sends p Fine

-- a send to the peer has failed, and the client isn't told of it yet
abbrev pub is_pending : SendState → Bool
is_pending Fine = false
is_pending Pending = true
is_pending Known = false

-- no send to the peer has failed
abbrev pub is_fine : SendState → Bool
is_fine Fine = true
is_fine Pending = false
is_fine Known = false

-- how much may still come of it: a failure, and its telling
abbrev pub weight : SendState → ℕ
weight Fine = 2
weight Pending = 1
weight Known = 0

-- how much may still come of failed sends, over all peers
abbrev pub trouble : Progress → ℕ
trouble progress = sum_by weight progress.sends

-- nothing is noted yet: no send has failed, nobody was closed, and the trace is empty
pub record IsUnused (progress : Progress) : Type 0 where
  pub sends : progress.sends ≡ replicate 9 Fine
  pub closed : progress.closed ≡ replicate 9 false
  pub trace : progress.trace.lines.items ≡ []

-- the trace keeps the lines of this log, where they are wanted, and else none
abbrev pub HasTrace : Trace → Log → Type 0
HasTrace trace log = (lines : List TraceLine) × (IsTraceOf log (reverse lines) × (trace.lines.items ≡ kept_lines trace.wanted lines))

-- what the run's own notes say of the log as it is
pub record Notes (rule : Rule) (progress : Progress) (called : List (List ℕ)) (actual : Log) (t : Told) : Type 0 where
  pub tells : Tells actual t
  pub bytes : AreBytes actual
  pub rightly : RightlyIn rule.mode actual
  pub planned : ArePlanned rule actual
  pub order : WasOrderly actual
  pub pinged : WerePinged rule.mode actual
  pub asked_out : WereAskedOut rule actual
  pub numbered : AreNumbered actual
  pub first : AreDialledFirst actual
  pub traced : HasTrace progress.trace actual
  pub named : names_of actual ≡ called
  pub off : (q : ℕ) → is_fine (state_at progress.sends q) ≡ false → is_connected (trail actual q) ≡ false
  pub shut : (q : ℕ) → slice_index_or progress.closed q false ≡ true → (is_connected (trail actual q) ≡ false) × (is_untold actual q ≡ false)
  pub new : (q : ℕ) → (tally_of actual).dials < q → (is_fine (state_at progress.sends q) ≡ true) × (slice_index_or progress.closed q false ≡ false)
  pub few : (tally_of actual).dials ≤ 8

-- the run's note of who was closed is the tally's
abbrev pub IsInStep : Told → Progress → Type 0
IsInStep t progress = t.tally.closed ≡ progress.closed

-- an act closes this peer
abbrev pub closes : ℕ → Act → Bool
closes q (Send p m) = false
closes q (Close p cause) = p.0 == q

-- a failed send that isn't told is pending, or the peer's close is among the acts that are left
abbrev pub is_due : Progress → List Act → ℕ → Bool
is_due progress acts q = is_pending (state_at progress.sends q) || list_any (closes q) acts

-- of each peer the same filters came
abbrev pub IsSameCome : Log → Log → Type 0
IsSameCome a b = (p : ℕ) → given_filters (counted_part a p) ≡ given_filters (counted_part b p)

-- cut off by a send that failed
abbrev pub IsBroken : Log → ℕ → Type 0
IsBroken log q = (is_connected (trail log q) ≡ false) × (has_failed (trail log q) ≡ true)

-- with these acts left to be done, some log that the wires tell is the planned one, but for the peers whose failed sends aren't told
pub record Doing (rule : Rule) (acts : List Act) (progress : Progress) (called : List (List ℕ)) (planned : Log) (t : Told) : Type 0 where
  pub actual : Log
  pub notes : Notes rule progress called actual t
  pub plan : IsPlanned planned actual
  pub brought : IsSameFetched planned actual
  pub came : IsSameCome planned actual
  pub omitted : (q : ℕ) → is_untold actual q ≡ false → HasOmitted planned q → HasOmitted actual q
  pub unomitted : (q : ℕ) → is_untold actual q ≡ false → HasOmitted actual q → HasOmitted planned q
  pub rightly : RightlyIn Following planned
  pub pending : (q : ℕ) → is_pending (state_at progress.sends q) ≡ true → is_untold actual q ≡ true
  pub due : (q : ℕ) → is_untold actual q ≡ true → is_due progress acts q ≡ true
  pub broken : (q : ℕ) → is_untold actual q ≡ true → IsBroken actual q
  pub known : (q : ℕ) → is_untold actual q ≡ true → is_pending (state_at progress.sends q) ≡ false → IsBroken planned q

-- the client reflects the log that the wires tell, and every failure is told
pub record HoldsOver {H M : Type 0} {g : Ghosts H} {j : Judges M} (c : Client H M g j) (progress : Progress) (called : List (List ℕ)) (t : Told) : Type 0 where
  pub actual : Log
  pub notes : Notes (rule_by c) progress called actual t
  pub reflects : Reflects c actual
  pub ticked : IsTicked (rule_by c).mode actual
  pub told_all : (q : ℕ) → is_untold actual q ≡ false
  pub none : (q : ℕ) → is_pending (state_at progress.sends q) ≡ false

-- what is left of the acts leads from here to where all of them lead
pub record ActsLeft (rule : Rule) (acts : List Act) (end : Log) (progress : Progress) (called : List (List ℕ)) (t : Told) : Type 0 where
  pub planned : Log
  pub allowed : Allowed rule acts planned
  pub leads : after acts planned ≡ end
  pub doing : Doing rule acts progress called planned t

-- the client reflects a planned log, that goes on from a first one, and waits to be told of pending failures
pub record Waits {H M : Type 0} {g : Ghosts H} {j : Judges M} (c : Client H M g j) (progress : Progress) (called : List (List ℕ)) (first : Log) (t : Told) : Type 0 where
  pub planned : Log
  pub reflects : Reflects c planned
  pub ticked : IsTicked (rule_by c).mode first → IsTicked (rule_by c).mode planned
  pub doing : Doing (rule_by c) [] progress called planned t

-- no count changes, nobody is dialled, and no delivery is taken
pub record SameCounts (t u : Told) : Type 0 where
  pub dials : u.tally.dials ≡ t.tally.dials
  pub taken : u.tally.taken ≡ t.tally.taken
  pub ended : u.tally.ended ≡ t.tally.ended
  pub named : (called : List (List ℕ)) → HasNames called t → HasNames called u
  pub puts : (watch texts : List (List ℕ)) → PutBefore watch texts t → PutBefore watch texts u

-- the state of a run: what its wires told, how often what is outside has failed, their script, whether they keep their log, and the run's own notes
pub record RunState : Type 0 where
  pub told : Told
  pub faults : ℕ
  pub script : Option Made
  pub keeps : Bool
  pub progress : Progress

-- the state in which wires and run are so
abbrev pub run_state : Told → ℕ → Option Made → Bool → Progress → RunState
run_state told faults script keeps progress = record { told = told; faults = faults; script = script; keeps = keeps; progress = progress }

-- the state of these wires, of which this is told
abbrev pub run_at : {W : Type 0} → (W → Told) → (W → ℕ) → (W → Option Made) → (W → Bool) → W → Progress → RunState
run_at told faults script keeps wires progress = run_state (told wires) (faults wires) (script wires) (keeps wires) progress

-- from one state to a later one, whatever was answered
pub record Runs (a b : RunState) : Type 0 where
  pub course : Course a.told b.told a.faults b.faults a.script b.script
  pub keeps : b.keeps ≡ a.keeps
  pub finished : b.told.finished ≡ a.told.finished
  pub step : IsInStep b.told b.progress
  pub wanted : b.progress.trace.wanted ≡ a.progress.trace.wanted

-- acts were done: no count changed, and no more failures are to be told than before
pub record Performs (a b : RunState) : Type 0 where
  pub runs : Runs a b
  pub counts : SameCounts a.told b.told
  pub fewer : trouble b.progress ≤ trouble a.progress

-- one more was dialled, by this name; none was
pub record IsOneMore (name : List ℕ) (t u : Told) : Type 0 where
  pub dials : u.tally.dials ≡ t.tally.dials + 1
  pub named : (called : List (List ℕ)) → HasNames called t → HasNames (called ++ name ∷ []) u
  pub puts : (watch texts : List (List ℕ)) → PutBefore watch texts t → PutBefore watch texts u

pub record IsNoMore (t u : Told) : Type 0 where
  pub dials : u.tally.dials ≡ t.tally.dials
  pub named : (called : List (List ℕ)) → HasNames called t → HasNames called u

-- a name was dialled, or no memory was found before it
pub record Dials (name : List ℕ) (a b : RunState) : Type 0 where
  pub runs : Runs a b
  pub taken : b.told.tally.taken ≡ a.told.tally.taken
  pub ended : b.told.tally.ended ≡ a.told.tally.ended
  pub most : IsOneMore name a.told b.told ⊎ IsNoMore a.told b.told
  pub puts : (watch texts : List (List ℕ)) → PutBefore watch texts a.told → PutBefore watch texts b.told

-- a turn was begun: at most one delivery was taken, or the end told, and nobody was dialled
pub record Turns (a b : RunState) : Type 0 where
  pub runs : Runs a b
  pub same : IsNoMore a.told b.told
  pub taken : b.told.tally.taken ≤ a.told.tally.taken + 1
  pub ended : b.told.tally.ended ≤ a.told.tally.ended + 1
  pub puts : (watch texts : List (List ℕ)) → PutBy watch texts a.told → PutBefore watch texts b.told ⊎ PutBy watch texts b.told

-- so many turns were taken, each with a delivery: the end wasn't told, and nobody was dialled
pub record TookTurns (turns : ℕ) (a b : RunState) : Type 0 where
  pub taken : b.told.tally.taken ≡ turns
  pub unended : b.told.tally.ended ≡ 0
  pub same : IsNoMore a.told b.told
  pub runs : Runs a b

-- turns were taken, so many at most: the end was told at most once, and nobody was dialled
pub record TakesTurns (turns : ℕ) (a b : RunState) : Type 0 where
  pub most : b.told.tally.taken ≤ turns
  pub once : b.told.tally.ended ≤ 1
  pub same : IsNoMore a.told b.told
  pub runs : Runs a b

-- so many turns that ended so: they are used up where the run is tired, and not where the wires had no more to give
pub record EndsTurns (end : End) (turns : ℕ) (tally : Tally) : Type 0 where
  pub tired : end ≡ Tired → tally.taken ≡ turns
  pub ended : end ≡ EndedFirst → tally.ended ≡ 1
  pub early : end ≡ EndedFirst → tally.taken < turns

-- a run stops for this reason
pub record Stopped {H M : Type 0} {g : Ghosts H} {j : Judges M} (end : End) (c : Client H M g j) (progress : Progress) (called : List (List ℕ)) (t : Told) : Type 0 where
  pub holds : HoldsOver c progress called t
  pub why : IsEnd end holds.actual

-- a turn: the run goes on, or it ends
abbrev pub Turned : {H M : Type 0} → {g : Ghosts H} {j : Judges M} → Option End → Client H M g j → Progress → List (List ℕ) → Told → Type 0
Turned None c progress called t = HoldsOver c progress called t
Turned (Some end) c progress called t = Stopped end c progress called t

-- how often a turn that ends so has told the end of the wires: for a client that ends, once where it is why the run ends, and else not at all; for one that
-- follows once, but where no peer is left, of which nothing is said
abbrev pub IsEndTold : Mode → End → Tally → Tally → Type 0
IsEndTold Once Synced before after = after.ended ≡ before.ended
IsEndTold Once NoPeers before after = after.ended ≡ before.ended
IsEndTold Once Tired before after = after.ended ≡ before.ended
IsEndTold Once EndedFirst before after = after.ended ≡ before.ended + 1
IsEndTold Following Synced before after = after.ended ≡ before.ended + 1
IsEndTold Following NoPeers before after = Unit {0}
IsEndTold Following Tired before after = after.ended ≡ before.ended + 1
IsEndTold Following EndedFirst before after = after.ended ≡ before.ended + 1

-- what a turn counts: where the run goes on one delivery was taken, and the end wasn't told; where it ends none was, and it isn't for want of turns
pub record CountsTurn (mode : Mode) (end : Option End) (before after : Tally) : Type 0 where
  pub taken : end ≡ None → after.taken ≡ before.taken + 1
  pub unended : end ≡ None → after.ended ≡ before.ended
  pub untaken : (e : End) → end ≡ Some e → after.taken ≡ before.taken
  pub untired : end ≢ Some Tired
  pub ended : (e : End) → end ≡ Some e → IsEndTold mode e before after
