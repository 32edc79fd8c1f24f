-- statement: what a command tells of how each peer stands at the end of its run.
use Rattle.std.specs.Prelude.{◌≡◌, ℕ, false, List, length, Option, Some, None, is_some, Result, Ok, Err}
use Rattle.std.specs.FinMap as finite
use Rattle.cf_bytes.specs.Files.{Named}
use Rattle.cf_place.specs.declared.place.PeerEnd.{PeerEnd}
use Rattle.cf_wires.specs.Log.{Told}
use Rattle.cf_wires.specs.Wires.{WireScript}
use Rattle.cf_input.specs.declared.session.SessionFault.{SessionFault}
use Rattle.cf_input.specs.declared.words.Command.{Command}
use Rattle.cf_input.specs.declared.words.Command.TheVariants.{Replay, Sync, Follow}
use Rattle.cf_input.specs.SessionFile.{session_of}
use Rattle.cf_answers.specs.declared.status.Status.{Status}
use Rattle.cf_cli_client.specs.Ends.{AreEndsAfter, AreEndsOver}

-- how many peers a session dials, as it was read; of one that is refused, so many as were dialled
abbrev pub dials_read : Result WireScript SessionFault → ℕ → ℕ
dials_read (Ok script) dialled = length script.dials
dials_read (Err fault) dialled = dialled

-- the same of the bytes of a file; where there is none, so many as were dialled
abbrev pub dials_held : Option (List ℕ) → ℕ → ℕ
dials_held None dialled = dialled
dials_held (Some bytes) dialled = dials_read (session_of bytes) dialled

-- the same of the file of this name; where the files don't tell, so many as were dialled
abbrev pub dials_in : Option Named → List ℕ → ℕ → ℕ
dials_in None name dialled = dialled
dials_in (Some m) name dialled = dials_held (finite.get m name) dialled

-- The ends after a command that was answered so: those of the log of the wires after `sync` and `follow`, which dial the peers of their words, and of the tape
-- after `replay`, which dials those of its session, where that was read; no other changes them.
abbrev pub AreEnds : Option Command → Status → Option Named → Told → Told → List PeerEnd → List PeerEnd → Type 0
AreEnds (Some (Sync turns workers file watch peers)) status files wires tape before after =
    AreEndsAfter status (is_some file) (length peers) wires before after
AreEnds (Some (Follow turns workers file watch peers)) status files wires tape before after =
    AreEndsOver status (is_some file) (length peers) wires before after
AreEnds (Some (Replay follow trace watch session)) status files wires tape before after =
    AreEndsAfter status false (dials_in files session tape.tally.dials) tape before after
AreEnds command status files wires tape before after = after ≡ before
