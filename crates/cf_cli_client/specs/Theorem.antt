-- statement: what is promised of a run of the program.
use Rattle.std.specs.Prelude.{◌≡◌, ◌≢◌, ◌⊎◌, ◌<◌, ◌≤◌, ℕ, Bool, true, false, List, [], length, take, Option, IfSome, IsSomeAnd, Vec, Result, Ok, Err}
use Rattle.std.specs.FinMap as finite
use Rattle.std.specs.Global.{Global}
use Rattle.cf_bytes.specs.Files.{Named}
use Rattle.cf_bytes.specs.Outside.{with_more}
use Rattle.cf_bytes.specs.declared.hash.Hash32.{Hash32}
use Rattle.cf_block.specs.declared.tx.Block.{Block}
use Rattle.cf_headers.specs.Chain.{tip_hash, NoHashClash}
use Rattle.cf_chain.specs.Good.{headers_of}
use Rattle.cf_run.specs.declared.outcome.End.{End}
use Rattle.cf_run.specs.declared.outcome.End.TheVariants.{Synced as IsSynced, NoPeers as HasNoPeers, Tired as IsTired, Ended as HasEnded}
use Rattle.cf_place.specs.declared.place.PeerEnd.{PeerEnd}
use Rattle.cf_run.specs.declared.trace.TraceLine.{TraceLine}
use Rattle.cf_place.specs.Standing.{EndsTell}
use Rattle.cf_run.specs.Run.{RanTo, NobodyLeft}
use Rattle.cf_run.specs.Texts.{IsOver}
use Rattle.cf_peer.specs.declared.mode.Mode.TheVariants.{Once}
use Rattle.cf_sync.specs.Fetching.{AreBytes, IsBusy, IsQuiet, RightlyIn, Rule, once}
use Rattle.cf_sync.specs.Honesty.{IsHonest, ShowsNoOther, IsNeverClosed}
use Rattle.cf_sync.specs.Sync.{IsHashed}
use Rattle.cf_wires.specs.Dials.{goes_as_made}
use Rattle.cf_wires.specs.Log.{Log, Told, Tally, tally_of, deliveries, dials}
use Rattle.cf_wires.specs.Wires.{WireScript}
use Rattle.cf_scan.specs.declared.history.Entry.{Entry}
use Rattle.cf_scan.specs.HistoryText.{history_text}
use Rattle.cf_scan.specs.Scan.{scan_of}
use Rattle.cf_input.specs.WatchFile.{watch_of}
use Rattle.cf_input.specs.declared.session.SessionFault.{SessionFault}
use Rattle.cf_answers.specs.declared.status.Status.{Status}
use Rattle.cf_answers.specs.declared.status.Status.TheVariants.{Done, NoMemory, BadFile, FileFault, OutFault, NoPeers, Tired, Ended}
use Rattle.cf_answers.specs.Statuses.{has_run}
use Rattle.cf_run_text.specs.Texts.{run_text}

-- the answer of a run that ended so: its whole text was written, or the sink failed and a beginning of it was
abbrev pub IsAnswerOf : End → Status → Option (List ℕ) → Option (List ℕ) → List ℕ → Type 0
IsAnswerOf end Done before after text = (end ≡ IsSynced) × (after ≡ with_more before text)
IsAnswerOf end (NoPeers ends) before after text = (end ≡ HasNoPeers) × (after ≡ with_more before text)
IsAnswerOf end Tired before after text = (end ≡ IsTired) × (after ≡ with_more before text)
IsAnswerOf end Ended before after text = (end ≡ HasEnded) × (after ≡ with_more before text)
IsAnswerOf end OutFault before after text = (n : ℕ) × (after ≡ with_more before (take n text))
IsAnswerOf end status before after text = ⊥

-- where the answer tells how each peer stands, this is what the log says of it
abbrev pub AnswerTellsEnds : Status → Log → Type 0
AnswerTellsEnds status log = (ends : Vec PeerEnd Global) → status ≡ NoPeers ends → EndsTell ends.items log

-- a run over a log that went by this rule, and how it ended, by the log
pub record RanBy (rule : Rule) (names : List (List ℕ)) (log : Log) : Type 0 where
  pub end : End
  pub height : ℕ
  pub tip : Hash32
  pub entries : List Entry
  pub lines : List TraceLine
  pub followed : RanTo rule end height tip entries lines names log

-- a run over a log: how it ended, by the log, and what was written of it
pub record Ran (status : Status) (trace : Bool) (scripts names : List (List ℕ)) (before after : Option (List ℕ)) (log : Log) : Type 0 where
  pub run : RanBy (once scripts) names log
  pub answered : IsAnswerOf run.end status before after (run_text trace run.lines run.end run.entries run.height run.tip)
  pub stands : AnswerTellsEnds status log

-- where the files tell: the watch file is there, and these are its scripts
abbrev pub IsWatchFile : Option Named → List ℕ → List (List ℕ) → Type 0
IsWatchFile files watch scripts = IfSome files (λ m. IsSomeAnd (finite.get m watch) (λ bytes. watch_of bytes ≡ Ok scripts))

-- Done, or the answer of a sink that fails, of want of memory, or of a record that can't be written
abbrev pub IsDoneOrFault : Status → Bool → Type 0
IsDoneOrFault Done recorded = Unit {0}
IsDoneOrFault OutFault recorded = Unit {0}
IsDoneOrFault NoMemory recorded = Unit {0}
IsDoneOrFault FileFault recorded = recorded ≡ true
IsDoneOrFault status recorded = ⊥

-- the answers where a peer is honest to the end of what is taken
abbrev pub IsComplete : Status → Bool → Type 0
IsComplete Done recorded = Unit {0}
IsComplete Tired recorded = Unit {0}
IsComplete Ended recorded = Unit {0}
IsComplete OutFault recorded = Unit {0}
IsComplete NoMemory recorded = Unit {0}
IsComplete FileFault recorded = recorded ≡ true
IsComplete status recorded = ⊥

-- a peer that answers as the serving machine of these blocks does, over a log whose strings, with those of the blocks and of their filters, don't clash
pub record Serves (log : Log) (p : ℕ) (blocks : List Block) : Type 0 where
  pub honest : IsHonest log p blocks
  pub apart : NoHashClash (IsHashed log blocks)

-- The sync theorem for the program. Whatever peers send: where one of them answers as the serving machine of a chain of blocks does, and no
-- connected peer has shown another chain at least as long, a run that answers Done has written exactly the history that a plain scan of every block of
-- that chain gives for the watched scripts, with its tip; it answers Done where no request is open at the end, unless the sink fails, memory is
-- wanting, or the record that was asked for can't be written; and it never closes that peer. Whatever is answered: what came were bytes, what was sent
-- might be sent, who was closed deserved it, and a delivery was taken only while something was open.
pub record KeptOnce (status : Status) (recorded trace : Bool) (scripts names : List (List ℕ)) (before after : Option (List ℕ)) (log : Log) : Type 0 where
  pub writes : (p : ℕ) (blocks : List Block) → Serves log p blocks → ShowsNoOther log blocks → status ≡ Done → trace ≡ false
      → after ≡ with_more before (history_text (scan_of blocks scripts) (length blocks) (tip_hash (headers_of blocks)))
  pub answers : (p : ℕ) (blocks : List Block) → Serves log p blocks → IsQuiet log → IsDoneOrFault status recorded
  pub complete : (p : ℕ) (blocks : List Block) → Serves log p blocks → IsComplete status recorded
  pub never : (p : ℕ) (blocks : List Block) → Serves log p blocks → IsNeverClosed log p
  pub ran : has_run status ≡ true → Ran status trace scripts names before after log
  pub right : AreBytes log × RightlyIn Once log
  pub unrecorded : status ≡ FileFault → (log ≡ []) ⊎ RanBy (once scripts) names log

-- what is promised of a run, with the scripts of the watch file, which was there wherever a run was made or anything has passed
pub record KeptOverWatch (status : Status) (files : Option Named) (watch : List ℕ) (log : Log) (Kept : List (List ℕ) → Type 0) : Type 0 where
  pub scripts : List (List ℕ)
  pub watched : has_run status ≡ true → IsWatchFile files watch scripts
  pub unwatched : (log ≡ []) ⊎ IsWatchFile files watch scripts
  pub kept : Kept scripts

-- the sync theorem for the program, over a watch file
abbrev pub KeptOver : Status → Bool → Bool → Option Named → List ℕ → List (List ℕ) → Option (List ℕ) → Option (List ℕ) → Log → Type 0
KeptOver status recorded trace files watch names before after log =
    KeptOverWatch status files watch log (λ scripts. KeptOnce status recorded trace scripts names before after log)

-- an answer that comes only where a peer is connected
abbrev pub has_somebody : Status → Bool
has_somebody Done = true
has_somebody Tired = true
has_somebody Ended = true
has_somebody status = false

-- the answers of `sync` and `replay`
abbrev pub IsOfRun : Status → Type 0
IsOfRun Done = Unit {0}
IsOfRun NoMemory = Unit {0}
IsOfRun (BadFile which place cause) = Unit {0}
IsOfRun FileFault = Unit {0}
IsOfRun OutFault = Unit {0}
IsOfRun (NoPeers ends) = Unit {0}
IsOfRun Tired = Unit {0}
IsOfRun Ended = Unit {0}
IsOfRun status = ⊥

-- At most so many deliveries were taken, at most so many peers dialled, and the end was told at most once.
pub record IsWithin (turns names : ℕ) (tally : Tally) : Type 0 where
  pub taken : tally.taken ≤ turns
  pub dialled : tally.dials ≤ names
  pub ended : tally.ended ≤ 1

-- wires that were used are finished
abbrev pub AreLeft : Told → Told → Type 0
AreLeft was now = (now ≡ was) ⊎ (now.finished ≡ true)

-- once a run is made, each peer was dialled, and the wires are finished
pub record IsWhole (names : ℕ) (now : Told) : Type 0 where
  pub dialled : now.tally.dials ≡ names
  pub finished : now.finished ≡ true

-- what is promised over any wires, also those that tell no log: by what they told before the call, and after it
pub record Tallied (status : Status) (turns names : ℕ) (was now : Told) : Type 0 where
  pub answers : IsOfRun status
  pub within : IsWithin turns names now.tally
  pub whole : has_run status ≡ true → IsWhole names now
  pub left : AreLeft was now
  pub no_peers : (ends : Vec PeerEnd Global) → status ≡ NoPeers ends → NobodyLeft now.tally
  pub somebody : has_somebody status ≡ true → NobodyLeft now.tally → ⊥
  pub tired : status ≡ Tired → now.tally.taken ≡ turns
  pub ended : status ≡ Ended → now.tally.ended ≡ 1
  pub early : status ≡ Ended → now.tally.taken < turns

-- where something is still open, the turns are taken, or the wires have no more to give: so a run that ends once nothing is open was over
abbrev pub WasOver : ℕ → Told → Type 0
WasOver turns now = IfSome now.log (λ log. IsBusy log → IsOver turns now.tally)

-- What the log of a session says, whatever the answer: its dials and its deliveries are the first of the session's, in order. All deliveries are
-- there once the end was told, and all dials once the run is made. Each dial went as the session says, and no send failed.
pub record Plays (status : Status) (script : WireScript) (log : Log) : Type 0 where
  pub dialled : (n : ℕ) × (dials log ≡ take n script.dials)
  pub given : (n : ℕ) × (deliveries log ≡ take n script.deliveries)
  pub all : has_run status ≡ true → dials log ≡ script.dials
  pub whole : 0 < (tally_of log).ended → deliveries log ≡ script.deliveries
  pub went : goes_as_made (record { script = script; failing = [] }) log ≡ true

-- the answer that tells how a run ended, and how its peers stand where none is left
abbrev pub AnswersTo : End → List PeerEnd → Status → Type 0
AnswersTo IsSynced ends status = status ≡ Done
AnswersTo HasNoPeers ends status = (told : Vec PeerEnd Global) × (status ≡ NoPeers told) × (told.items ≡ ends)
AnswersTo IsTired ends status = status ≡ Tired
AnswersTo HasEnded ends status = status ≡ Ended

-- what is promised of `replay` over a tape: the same, of a log whose names aren't told, and that the run was over unless memory was wanting
abbrev pub IsReplayed : Status → ℕ → Bool → Option Named → List ℕ → Option (List ℕ) → Option (List ℕ) → Told → Told → Log → Type 0
IsReplayed status turns trace files watch before after was now log =
    (names : List (List ℕ)) × KeptOver status false trace files watch names before after log × Tallied status turns (length names) was now
    × (status ≢ NoMemory → WasOver turns now)

-- what the log says of a session that was read
abbrev pub PlaysSession : Status → Result WireScript SessionFault → Log → Type 0
PlaysSession status (Ok script) log = Plays status script log
PlaysSession status (Err fault) log = log ≡ []
