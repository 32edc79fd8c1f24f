-- statement: how dials and sends go in memory.
use Rattle.std.specs.Prelude.{◌≡◌, ℕ, ◌+◌, ◌<◌, ◌==◌, Bool, true, false, not, ◌&&◌, List, [], ◌∷◌, map, length, slice_index_or}
use Rattle.std.specs.List.{list_any}
use Rattle.cf_wires.specs.declared.event.Dial.{Dial}
use Rattle.cf_wires.specs.declared.event.Event.TheVariants.{Dialled, NotDialled, Sent, SendFailed}
use Rattle.cf_wires.specs.Log.{Log, tally_of}
use Rattle.cf_wires.specs.Wires.{Made}

-- whether the dial at a place is answered: none past the end of the list
abbrev pub answered_at : List Dial → ℕ → Bool
answered_at ds i = slice_index_or (map (λ (d : Dial). d.answered) ds) i false

-- the first dials went as they were made to go
abbrev pub WentAsMade : List Dial → List Dial → Type 0
WentAsMade made went = (i : ℕ) → i < length went → answered_at went i ≡ answered_at made i

-- how many dials and sends there were
abbrev pub calls_in : Log → ℕ
calls_in [] = 0
calls_in (Dialled p name ∷ log) = calls_in log + 1
calls_in (NotDialled p name ∷ log) = calls_in log + 1
calls_in (Sent p bytes ∷ log) = calls_in log + 1
calls_in (SendFailed p ∷ log) = calls_in log + 1
calls_in (_ ∷ log) = calls_in log

-- the call with this number, counted from 1, is one of those that are to fail
abbrev pub is_to_fail : List ℕ → ℕ → Bool
is_to_fail failing number = list_any (λ call. call == number) failing

-- the next dial or send after a log is to fail
abbrev pub fails_after : Made → Log → Bool
fails_after made log = is_to_fail made.failing (calls_in log + 1)

-- the next dial after a log is answered: it isn't to fail, and the script has it answered
abbrev pub answers_after : Made → Log → Bool
answers_after made log = not (fails_after made log) && answered_at made.script.dials (tally_of log).dials

-- each dial and send went as it was made to go: it failed exactly where it was to fail, or had no answer
abbrev pub goes_as_made : Made → Log → Bool
goes_as_made made [] = true
goes_as_made made (Dialled p name ∷ log) = answers_after made log && goes_as_made made log
goes_as_made made (NotDialled p name ∷ log) = not (answers_after made log) && goes_as_made made log
goes_as_made made (Sent p bytes ∷ log) = not (fails_after made log) && goes_as_made made log
goes_as_made made (SendFailed p ∷ log) = fails_after made log && goes_as_made made log
goes_as_made made (_ ∷ log) = goes_as_made made log
