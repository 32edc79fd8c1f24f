-- statement: what wires in memory hold.
use Rattle.std.specs.Prelude.{ℕ, Bool, true, false, List, [], ◌∷◌, ◌++◌, reverse, Some}
use Rattle.cf_wires.specs.declared.event.Dial.{Dial}
use Rattle.cf_wires.specs.declared.memory.MemoryWires.{MemoryWires}
use Rattle.cf_wires.specs.declared.memory.Scripted.{Scripted}
use Rattle.cf_wires.specs.declared.memory.Scripted.TheVariants.{Dial as MadeDial, NoDial as MadeNoDial, Deliver}
use Rattle.cf_wires.specs.Log.{Log, Told, tally_of, is_real}
use Rattle.cf_wires.specs.Wires.{WireScript, Made}

-- what the wires are made to give: dials and deliveries
abbrev pub script_of : MemoryWires → WireScript
script_of w = record { dials = w.dial_script.items; deliveries = w.script.items }

-- the log, the newest entry first
abbrev pub log_of : MemoryWires → Log
log_of w = reverse w.log.items

-- the calls that are to fail, counted from 1
abbrev pub failing_of : MemoryWires → List ℕ
failing_of w = w.failing.items

-- what they are made to give, and which calls are to fail
abbrev pub made_of : MemoryWires → Made
made_of w = record { script = script_of w; failing = failing_of w }

-- how many dials and sends there were, and how many of them failed
abbrev pub calls_of : MemoryWires → ℕ
calls_of w = w.calls

-- how many dials and sends have failed
abbrev pub faults_of : MemoryWires → ℕ
faults_of w = w.faults

-- whether the log is to be kept
abbrev pub keeps_of : MemoryWires → Bool
keeps_of w = w.keeps

-- whether they are finished
abbrev pub finished_of : MemoryWires → Bool
finished_of w = w.finished

-- what they tell
abbrev pub told_of : MemoryWires → Told
told_of w = record { log = Some (log_of w); tally = tally_of (log_of w); finished = w.finished }

-- the end is told by itself, and not added
abbrev pub may_be_added : Scripted → Bool
may_be_added (MadeDial name) = true
may_be_added (MadeNoDial name) = true
may_be_added (Deliver d) = is_real d

-- a script with one dial more
abbrev pub with_dial : WireScript → Dial → WireScript
with_dial s d = record s { dials = s.dials ++ d ∷ [] }

-- one more thing to give
abbrev pub with_scripted : WireScript → Scripted → WireScript
with_scripted s (MadeDial name) = with_dial s (record { name = name; answered = true })
with_scripted s (MadeNoDial name) = with_dial s (record { name = name; answered = false })
with_scripted s (Deliver d) = record s { deliveries = s.deliveries ++ d ∷ [] }
