-- statement: what becomes of the files.
use Rattle.std.specs.Prelude.{◌≡◌, ℕ, true, List, Option, Some, None, is_some, IfSome, IsSome, Result, Ok, Err}
use Rattle.cf_bytes.specs.Files.{Named, with_file}
use Rattle.cf_bytes.specs.Outside.{HasRisen}
use Rattle.cf_bytes.specs.declared.memory.Refused.{Refused}
use Rattle.cf_bytes.specs.declared.memory.Refused.TheVariants.{No, NoMemory as OutOfMemory}
use Rattle.cf_bytes.specs.declared.outside.Failed.{Failed}
use Rattle.cf_wires.specs.Log.{Log}
use Rattle.cf_wires.specs.Session.{session_text}
use Rattle.cf_answers.specs.declared.status.Status.{Status}
use Rattle.cf_answers.specs.declared.status.Status.TheVariants.{Done, OutFault, NoPeers, Tired, Ended}

-- the log is told, and its session lines stand under this name; nothing else has changed
pub record IsRecorded (name : List ℕ) (log : Option Log) (before after : Option Named) : Type 0 where
  pub told : IsSome log
  pub text : List ℕ
  pub lines : IfSome log (λ l. text ≡ session_text l)
  pub stands : after ≡ with_file name text before

-- the same where a record is asked for; else no file has changed
abbrev pub HasRecord : Option (List ℕ) → Option Log → Option Named → Option Named → Type 0
HasRecord None log before after = after ≡ before
HasRecord (Some name) log before after = IsRecorded name log before after

-- The files after `sync` or `follow`, by its answer. Where a run has ended, or a text of it could not be put, its record stands; no other answer changes a
-- file.
abbrev pub Records : Status → Option (List ℕ) → Option Log → Option Named → Option Named → Type 0
Records Done file log before after = HasRecord file log before after
Records OutFault file log before after = HasRecord file log before after
Records (NoPeers ends) file log before after = HasRecord file log before after
Records Tired file log before after = HasRecord file log before after
Records Ended file log before after = HasRecord file log before after
Records status file log before after = after ≡ before

-- what writing the record answers: it stands, where it is asked for; or it is, and could not be written, or no memory was found
abbrev pub IsRecording : Result (Unit {0}) (Refused Failed) → Option (List ℕ) → Option Log → Option Named → Option Named → Type 0
IsRecording (Ok done) file log before after = HasRecord file log before after
IsRecording (Err (No failed)) file log before after = (is_some file ≡ true) × (after ≡ before)
IsRecording (Err OutOfMemory) file log before after = (is_some file ≡ true) × (after ≡ before)

-- the count of faults rises where it could not be written
abbrev pub BlamesFiles : Result (Unit {0}) (Refused Failed) → ℕ → ℕ → Type 0
BlamesFiles (Err (No failed)) before after = HasRisen before after
BlamesFiles answer before after = after ≡ before
