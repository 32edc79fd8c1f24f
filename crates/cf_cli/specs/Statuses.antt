-- statement: what a command's files are judged as, and what it may have done by its answer.
use Rattle.std.specs.Prelude.{ℕ, Bool, false, not, Option, Some, is_some}
use Rattle.std.specs.FinMap as finite
use Rattle.cf_bytes.specs.Files.{Named}
use Rattle.cf_answers.specs.Statuses.{has_run, was_refused, was_unbegun}
use Rattle.cf_answers.specs.declared.status.Status.{Status}
use Rattle.cf_input.specs.declared.words.Command.{Command}
use Rattle.cf_input.specs.declared.words.Command.TheVariants.{Replay, Sync, Follow, Scan, Filter, Address, Prove, Check, Serve, Make, Demo}
use Rattle.cf_loading.specs.Verdicts.{FileVerdict, and_then, no_file, watch_verdict, session_verdict, blocks_verdict}
use Rattle.cf_offline.specs.Proving.{check_verdict}
use Rattle.std.specs.Prelude.{None}
use Rattle.cf_cli.specs.Asking.{name_written}

-- what the files of a command are judged as, in the order in which they are judged: the watch file first
abbrev pub verdict_of : Named → Command → FileVerdict
verdict_of files (Replay follow trace watch session) = and_then (watch_verdict (finite.get files watch)) (session_verdict (finite.get files session))
verdict_of files (Sync turns workers file watch peers) = watch_verdict (finite.get files watch)
verdict_of files (Follow turns workers file watch peers) = watch_verdict (finite.get files watch)
verdict_of files (Scan file watch) = and_then (watch_verdict (finite.get files watch)) (blocks_verdict (finite.get files file))
verdict_of files (Filter file height) = blocks_verdict (finite.get files file)
verdict_of files (Address text) = no_file
verdict_of files (Prove file txid) = blocks_verdict (finite.get files file)
verdict_of files (Check witness file chain) = check_verdict files witness file chain
verdict_of files (Serve grow count at_once budget file address) = blocks_verdict (finite.get files file)
verdict_of files (Make witness seed blocks file) = no_file
verdict_of files (Demo seed blocks) = no_file

-- whether a command that was answered so may have used the wires that were handed in: `sync` and `follow` alone do
abbrev pub may_dial : Option Command → Status → Bool
may_dial (Some (Sync turns workers file watch peers)) status = not (was_unbegun status (is_some file))
may_dial (Some (Follow turns workers file watch peers)) status = not (was_unbegun status (is_some file))
may_dial command status = false

-- the same of the tape, which `replay` alone uses
abbrev pub may_play : Option Command → Status → Bool
may_play (Some (Replay follow trace watch session)) status = not (was_refused status)
may_play command status = false

-- whether a command that was answered so may have written text: once it was carried out; and `follow`, which puts each text as its run goes on, once its
-- run was begun
abbrev pub may_say : Option Command → Status → Bool
may_say (Some (Follow turns workers file watch peers)) status = not (was_unbegun status (is_some file))
may_say command status = has_run status

-- whether a command goes on once the sink has failed: `follow` does, where it has a record to write
abbrev pub goes_on : Option Command → Bool
goes_on (Some (Follow turns workers file watch peers)) = is_some file
goes_on command = false

-- whether a command may change a file: where it writes one
abbrev pub may_write : Option Command → Bool
may_write (Some command) = is_some (name_written command)
may_write None = false

-- whether a command asks for a record: `sync` and `follow` may
abbrev pub is_recorded : Option Command → Bool
is_recorded (Some (Sync turns workers file watch peers)) = is_some file
is_recorded (Some (Follow turns workers file watch peers)) = is_some file
is_recorded command = false

-- how many threads a command asks for to judge filters, the one that it runs in among them: `sync` and `follow` do
abbrev pub workers_in : Option Command → Option ℕ
workers_in (Some (Sync turns workers file watch peers)) = Some workers
workers_in (Some (Follow turns workers file watch peers)) = Some workers
workers_in command = None
