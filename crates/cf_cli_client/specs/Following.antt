-- statement: what is promised of `follow`, and of `replay --follow`.
use Rattle.std.specs.Prelude.{◌≡◌, ◌≢◌, ◌⊎◌, ℕ, Bool, true, false, List, [], ◌++◌, length, reverse, take, Option}
use Rattle.cf_bytes.specs.Files.{Named}
use Rattle.cf_bytes.specs.Outside.{HasRisen, with_more}
use Rattle.cf_block.specs.declared.tx.Block.{Block}
use Rattle.cf_chain.specs.Grow.{top_hash}
use Rattle.cf_headers.specs.Chain.{NoHashClash}
use Rattle.cf_place.specs.declared.place.PeerEnd.{PeerEnd}
use Rattle.cf_run.specs.declared.trace.TraceLine.{TraceLine}
use Rattle.cf_place.specs.Standing.{EndsTell}
use Rattle.cf_run.specs.Run.{IsTraceOf, NobodyLeft, WasRun}
use Rattle.cf_run.specs.Texts.{HasBegun, HasPut, HasPutBut, HasPutSome, IsOver, joined}
use Rattle.cf_sync.specs.Fetching.{AreBytes, IsQuiet, RightlyIn, following}
use Rattle.cf_sync.specs.Growing.{IsGrowing, IsTold, OthersShowNone}
use Rattle.cf_sync.specs.Honesty.{IsNeverClosed}
use Rattle.cf_sync.specs.Putting.{WerePut, ArePut, EndsWith}
use Rattle.cf_sync.specs.Sync.{IsHashed}
use Rattle.cf_peer.specs.declared.mode.Mode.TheVariants.{Following}
use Rattle.cf_peer.specs.Trail.{trail}
use Rattle.cf_wires.specs.Log.{Log, Told}
use Rattle.cf_scan.specs.HistoryText.{history_text}
use Rattle.cf_scan.specs.Scan.{scan_of}
use Rattle.cf_answers.specs.declared.status.Status.{Status}
use Rattle.cf_answers.specs.declared.status.Status.TheVariants.{Done, NoMemory, FileFault, OutFault}
use Rattle.cf_run_text.specs.Texts.{trace_text}
use Rattle.cf_answers.specs.Statuses.{is_over}
use Rattle.cf_cli_client.specs.Theorem.{AnswersTo, IsComplete, IsReplayed, KeptOverWatch, Tallied, RanBy}

-- the trace before other bytes, where it is asked for
abbrev pub with_trace : Bool → List TraceLine → List ℕ → List ℕ
with_trace true lines bytes = trace_text lines ++ bytes
with_trace false lines bytes = bytes

-- a run that follows came to its end, by the log, and the texts of all its moments at rest were written whole
pub record CameToEnd (status : Status) (trace : Bool) (scripts names : List (List ℕ)) (before after : Option (List ℕ)) (log : Log) : Type 0 where
  pub run : RanBy (following scripts) names log
  pub ends : List PeerEnd
  pub stands : EndsTell ends log
  pub answered : AnswersTo run.end ends status
  pub texts : List (List ℕ)
  pub puts : ArePut scripts log texts
  pub written : after ≡ with_more before (with_trace trace run.lines (joined texts))

-- the same where the sink has failed at the end: a beginning of those texts was written, behind the trace where it is asked for
pub record CutShort (trace : Bool) (scripts names : List (List ℕ)) (before after : Option (List ℕ)) (log : Log) : Type 0 where
  pub run : RanBy (following scripts) names log
  pub texts : List (List ℕ)
  pub puts : ArePut scripts log texts
  pub begun : HasBegun (with_trace trace run.lines (joined texts)) before after

-- where it failed: a beginning of the trace, where it is asked for, and of the texts of the moments at rest was written
pub record BegunTexts (trace : Bool) (scripts : List (List ℕ)) (before after : Option (List ℕ)) (log : Log) : Type 0 where
  pub lines : List TraceLine
  pub traced : (trace ≡ false) ⊎ ((after ≡ before) ⊎ IsTraceOf log (reverse lines))
  pub texts : List (List ℕ)
  pub puts : WerePut scripts log texts ⊎ ArePut scripts log texts
  pub begun : HasBegun (with_trace trace lines (joined texts)) before after

-- What was put of a run that was given up, by its answer, and by how often the sink had failed before it, and has then. All that was due before the last
-- delivery was put whole, and at most a beginning of what is due now. Unless memory was wanting, all was put whole, the text of the last moment too, or no more
-- than a beginning of the text that is due, and the sink has failed more often than before; with OutFault the latter. With FileFault either nothing has passed,
-- or a run came to its end, by the log, with all its texts written, or no more than such a beginning was put, and the sink has failed more often than before.
-- Whatever is answered: where the count of the sink's failures isn't as it was, the run stopped at a text that is due,
-- of which no more than a beginning was put. So no run went on behind a failure to a moment at which no text is due.
pub record GivenUp (status : Status) (scripts names : List (List ℕ)) (before after : Option (List ℕ)) (old new : ℕ) (log : Log) : Type 0 where
  pub some : is_over status ≡ false → HasPutSome scripts log before after
  pub tried : is_over status ≡ false → status ≢ NoMemory
      → HasPut scripts log before after ⊎ (HasPutBut scripts log before after × HasRisen old new)
  pub refused : status ≡ OutFault → HasPutBut scripts log before after × HasRisen old new
  pub unrecorded : status ≡ FileFault → (log ≡ [])
      ⊎ (((ended : Status) × CameToEnd ended false scripts names before after log) ⊎ (HasPutBut scripts log before after × HasRisen old new))
  pub tells : (new ≡ old) ⊎ HasPutBut scripts log before after

-- a peer whose chain grows up to these blocks, over a log whose strings, with those of the blocks and of their filters, don't clash
pub record Grows (log : Log) (p : ℕ) (blocks : List Block) (first : ℕ) : Type 0 where
  pub growing : IsGrowing log p blocks first
  pub apart : NoHashClash (IsHashed log blocks)

-- the texts of all moments at rest were written, and this is the last of them
pub record EndsBy (trace : Bool) (scripts : List (List ℕ)) (text : List ℕ) (before after : Option (List ℕ)) (log : Log) : Type 0 where
  pub lines : List TraceLine
  pub texts : List (List ℕ)
  pub puts : ArePut scripts log texts
  pub last : EndsWith text texts
  pub written : after ≡ with_more before (with_trace trace lines (joined texts))

-- The follow theorem for the program. Whatever peers send: where the chain of one of them grows as it answers, no other connected peer has shown another
-- chain at least as long as the one that it told of last, and nothing is open when the run is over, then what was written last is exactly the history that a plain
-- scan of every block of that chain gives for the watched scripts, with its tip; no answer comes but for the end of the deliveries, a sink that fails, want of
-- memory, or a record that can't be written; and that peer is never closed. Whatever is answered: what came were bytes, what was sent might be sent, who was closed
-- deserved it, and a delivery was taken only while a peer was connected; and unless memory was wanting the run went by the rules as far as it came.
pub record KeptOn (status : Status) (recorded trace : Bool) (scripts names : List (List ℕ)) (before after : Option (List ℕ)) (log : Log) : Type 0 where
  pub last : (p : ℕ) (blocks : List Block) (first top : ℕ) → Grows log p blocks first → IsTold blocks first (trail log p) top
      → OthersShowNone log p (take top blocks) → IsQuiet log → is_over status ≡ true
      → EndsBy trace scripts (history_text (scan_of (take top blocks) scripts) (length (take top blocks)) (top_hash (take top blocks))) before after log
  pub complete : (p : ℕ) (blocks : List Block) (first : ℕ) → Grows log p blocks first → IsComplete status recorded
  pub never : (p : ℕ) (blocks : List Block) (first : ℕ) → Grows log p blocks first → IsNeverClosed log p
  pub ran : is_over status ≡ true → CameToEnd status trace scripts names before after log
  pub begun : is_over status ≡ false → BegunTexts trace scripts before after log
  pub right : AreBytes log × RightlyIn Following log
  pub run : status ≢ NoMemory → (log ≡ []) ⊎ WasRun (following scripts) names log

-- the same over a watch file
abbrev pub KeptOnOver : Status → Bool → Bool → Option Named → List ℕ → List (List ℕ) → Option (List ℕ) → Option (List ℕ) → Log → Type 0
KeptOnOver status recorded trace files watch names before after log =
    KeptOverWatch status files watch log (λ scripts. KeptOn status recorded trace scripts names before after log)

-- the same of `follow`, which puts each text at once, and no trace, with what was put where the run was given up
pub record KeptLive (status : Status) (recorded : Bool) (files : Option Named) (watch : List ℕ) (names : List (List ℕ))
    (before after : Option (List ℕ)) (old new : ℕ) (log : Log) : Type 0 where
  pub kept : KeptOnOver status recorded false files watch names before after log
  pub given_up : GivenUp status kept.scripts names before after old new log

-- the same of `replay --follow`, which writes its texts once the run is over: where the sink fails, the run came to its end, and where a file fails none was
-- begun
pub record KeptOnTape (status : Status) (trace : Bool) (files : Option Named) (watch : List ℕ) (names : List (List ℕ))
    (before after : Option (List ℕ)) (log : Log) : Type 0 where
  pub kept : KeptOnOver status false trace files watch names before after log
  pub refused : status ≡ OutFault → CutShort trace kept.scripts names before after log
  pub unrecorded : status ≡ FileFault → log ≡ []

-- what is promised over any wires: the same as of `sync`, and Done only where the turns are taken, or the wires have no more to give
pub record TalliedOn (status : Status) (turns names : ℕ) (was now : Told) : Type 0 where
  pub tallied : Tallied status turns names was now
  pub done : status ≡ Done → IsOver turns now.tally

-- nobody is left, the turns are taken, or the wires have no more to give: so a run that follows was over
abbrev pub WasOverOn : ℕ → Told → Type 0
WasOverOn turns now = NobodyLeft now.tally ⊎ IsOver turns now.tally

-- what is promised of `replay --follow` over a tape: the same, of a log whose names aren't told, and that the run was over where the sink has failed
abbrev pub IsReplayedOn : Status → ℕ → Bool → Option Named → List ℕ → Option (List ℕ) → Option (List ℕ) → Told → Told → Log → Type 0
IsReplayedOn status turns trace files watch before after was now log =
    (names : List (List ℕ)) × KeptOnTape status trace files watch names before after log × TalliedOn status turns (length names) was now
    × (status ≡ OutFault → WasOverOn turns now)

-- what is promised of `replay`, with `--follow` or without
abbrev pub IsReplayedIn : Bool → Status → ℕ → Bool → Option Named → List ℕ → Option (List ℕ) → Option (List ℕ) → Told → Told → Log → Type 0
IsReplayedIn true status turns trace files watch before after was now log = IsReplayedOn status turns trace files watch before after was now log
IsReplayedIn false status turns trace files watch before after was now log = IsReplayed status turns trace files watch before after was now log
