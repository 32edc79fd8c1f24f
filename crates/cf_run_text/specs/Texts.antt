-- statement: what the program writes of a run.
use Rattle.std.specs.Prelude.{ℕ, ◌==◌, not, Bool, true, false, List, [], ◌∷◌, ◌++◌, codes, decimal, take_while}
use Rattle.std.specs.List.{flat_map}
use Rattle.cf_bytes.specs.declared.hash.Hash32.{Hash32}
use Rattle.cf_run.specs.declared.outcome.End.{End}
use Rattle.cf_run.specs.declared.outcome.End.TheVariants.{Synced, NoPeers, Tired, Ended}
use Rattle.cf_run.specs.declared.trace.TraceLine.{TraceLine}
use Rattle.cf_run.specs.declared.trace.TraceLine.TheVariants.{Sent, Closed}
use Rattle.cf_peer.specs.declared.peer.Cause.{Cause}
use Rattle.cf_peer.specs.declared.peer.Cause.TheVariants.{BadFrame, Malformed, NoFilters, Unlinked, InvalidHeader, TooHigh, WrongCount, WrongPrevious, OtherFilter, BadBlock, SendFailed, Overdue, Omits}
use Rattle.cf_scan.specs.declared.history.Entry.{Entry}
use Rattle.cf_scan.specs.HistoryText.{history_text}

-- a cause by its name
abbrev pub cause_name : Cause → List ℕ
cause_name BadFrame = codes "BadFrame"
cause_name Malformed = codes "Malformed"
cause_name NoFilters = codes "NoFilters"
cause_name Unlinked = codes "Unlinked"
cause_name InvalidHeader = codes "InvalidHeader"
cause_name TooHigh = codes "TooHigh"
cause_name WrongCount = codes "WrongCount"
cause_name WrongPrevious = codes "WrongPrevious"
cause_name OtherFilter = codes "OtherFilter"
cause_name BadBlock = codes "BadBlock"
cause_name SendFailed = codes "SendFailed"
cause_name Overdue = codes "Overdue"
cause_name Omits = codes "Omits"

-- a command without the NULs behind it
abbrev pub command_name : List ℕ → List ℕ
command_name command = take_while (λ b. not (b == 0)) command

-- `> P COMMAND` for a message that was sent, `x P CAUSE` for a close; LF ends each line
abbrev pub trace_line : TraceLine → List ℕ
trace_line (Sent p command) = codes "> " ++ decimal p.0 ++ codes " " ++ command_name command ++ 10 ∷ []
trace_line (Closed p cause) = codes "x " ++ decimal p.0 ++ codes " " ++ cause_name cause ++ 10 ∷ []

-- the lines of a trace, one after another
abbrev pub trace_text : List TraceLine → List ℕ
trace_text lines = flat_map trace_line lines

-- the history is written where the run is synced
abbrev pub end_text : End → List Entry → ℕ → Hash32 → List ℕ
end_text Synced entries height tip = history_text entries height tip.0
end_text NoPeers entries height tip = []
end_text Tired entries height tip = []
end_text Ended entries height tip = []

-- the trace comes first, where it is asked for
abbrev pub run_text : Bool → List TraceLine → End → List Entry → ℕ → Hash32 → List ℕ
run_text true lines end entries height tip = trace_text lines ++ end_text end entries height tip
run_text false lines end entries height tip = end_text end entries height tip
