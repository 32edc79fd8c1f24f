-- statement: what the answers say of what was done.
use Rattle.std.specs.Prelude.{Bool, true, false, not}
use Rattle.cf_answers.specs.declared.status.Status.{Status}
use Rattle.cf_answers.specs.declared.status.Status.TheVariants.{Done, NoMemory, Usage, BadFile, FileFault, NoPeers, Tired, Ended}

-- the words ask for nothing, or a file can't be read or is refused: nothing was begun
abbrev pub was_refused : Status → Bool
was_refused Usage = true
was_refused (BadFile which place cause) = true
was_refused FileFault = true
was_refused status = false

-- the same of a run; where it is recorded, a file may also fail once it has ended
abbrev pub was_unbegun : Status → Bool → Bool
was_unbegun FileFault recorded = not recorded
was_unbegun status recorded = was_refused status

-- the command was carried out: every other answer but want of memory, those of later commands too, is judged as the end of its work
abbrev pub has_run : Status → Bool
has_run NoMemory = false
has_run status = not (was_refused status)

-- a run over wires came to its end, and all that is written of it was
abbrev pub is_over : Status → Bool
is_over Done = true
is_over (NoPeers ends) = true
is_over Tired = true
is_over Ended = true
is_over status = false
