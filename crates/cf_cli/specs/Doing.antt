-- statement: what each command does.
use Rattle.std.specs.Prelude.{◌≡◌, ◌≢◌, ℕ, ℤ, Bool, false, List, length, Option, is_some, IfSome}
use Rattle.std.specs.FinMap as finite
use Rattle.cf_bytes.specs.Files.{Named}
use Rattle.cf_run.specs.Run.{HasDialled}
use Rattle.cf_wires.specs.Log.{Log, Told}
use Rattle.cf_wires.specs.Memory.{log_of, told_of}
use Rattle.cf_wires.specs.declared.memory.MemoryWires.{MemoryWires}
use Rattle.cf_played.specs.Told.{log_of as played_log}
use Rattle.cf_played.specs.declared.played.Played.{Played}
use Rattle.cf_link.specs.Links.{LinkTold}
use Rattle.cf_input.specs.declared.words.Command.{Command}
use Rattle.cf_input.specs.declared.words.Command.TheVariants.{Replay, Sync, Follow, Scan, Filter, Address, Prove, Check, Serve, Make, Demo}
use Rattle.cf_input.specs.SessionFile.{session_of}
use Rattle.cf_input.specs.Words.{most_turns}
use Rattle.cf_answers.specs.declared.status.Status.{Status}
use Rattle.cf_answers.specs.declared.status.Status.TheVariants.{NoMemory}
use Rattle.cf_cli_demo.specs.Demo.{IsDemoed}
use Rattle.cf_offline.specs.Making.{IsMaking}
use Rattle.cf_offline.specs.Proving.{IsProved, IsChecked}
use Rattle.cf_offline.specs.Reading.{IsScanned, IsFiltered, IsAddressed}
use Rattle.cf_cli_client.specs.Recording.{Records}
use Rattle.cf_cli_serve.specs.Serving.{IsServing}
use Rattle.cf_cli_client.specs.Following.{IsReplayedIn, KeptLive, TalliedOn}
use Rattle.cf_cli_client.specs.Theorem.{KeptOver, Tallied, PlaysSession, WasOver}

-- all that a run is handed: what stands in the files, what the sink was given, how often it has failed, what the wires and the tape tell, the log of the
-- tape, what the link tells, and the log of the played peers
pub record Around : Type 0 where
  pub files : Option Named
  pub written : Option (List ℕ)
  pub faults : ℕ
  pub wires : Told
  pub tape : Told
  pub taped : Log
  pub link : LinkTold
  pub played : Log

-- the same, told by what is handed in
abbrev pub around : Option Named → Option (List ℕ) → ℕ → Told → MemoryWires → Played → LinkTold → Around
around files written faults wires tape players link = record {
  files = files;
  written = written;
  faults = faults;
  wires = wires;
  tape = told_of tape;
  taped = log_of tape;
  link = link;
  played = played_log players;
}

-- all that is promised of `sync`: the sync theorem over the log of the wires, where they tell it; what holds over any wires; that the run was over unless
-- memory was wanting; that the names which were dialled are the first of those given; and the files
pub record IsSyncing (status : Status) (turns : ℕ) (file : Option (List ℕ)) (watch : List ℕ) (peers : List (List ℕ)) (before after : Around) : Type 0 where
  pub kept : IfSome after.wires.log (λ log. KeptOver status (is_some file) false before.files watch peers before.written after.written log)
  pub tallied : Tallied status turns (length peers) before.wires after.wires
  pub over : status ≢ NoMemory → WasOver turns after.wires
  pub dialled : HasDialled peers after.wires
  pub records : Records status file after.wires.log before.files after.files

-- all that is promised of `replay`, with `--follow` or without: what `IsReplayedIn` says over the tape, and that it plays the session
pub record IsReplaying (follow : Bool) (status : Status) (trace : Bool) (watch session : List ℕ) (before after : Around) : Type 0 where
  pub replayed : IsReplayedIn follow status most_turns trace before.files watch before.written after.written before.tape after.tape after.taped
  pub plays : IfSome before.files (λ m. IfSome (finite.get m session) (λ bytes. PlaysSession status (session_of bytes) after.taped))

-- all that is promised of `follow`: the follow theorem over the log of the wires, where they tell it; what holds over any wires; that the names which
-- were dialled are the first of those given; and the files
pub record IsFollowing (status : Status) (turns : ℕ) (file : Option (List ℕ)) (watch : List ℕ) (peers : List (List ℕ)) (before after : Around) : Type 0 where
  pub kept : IfSome after.wires.log
      (λ log. KeptLive status (is_some file) before.files watch peers before.written after.written before.faults after.faults log)
  pub tallied : TalliedOn status turns (length peers) before.wires after.wires
  pub dialled : HasDialled peers after.wires
  pub records : Records status file after.wires.log before.files after.files

-- what a command does that is answered so, at this moment and with this random number, by what is around it before and after
abbrev pub Does : Command → Status → ℤ → ℕ → Around → Around → Type 0
Does (Replay follow trace watch session) status moment nonce before after = IsReplaying follow status trace watch session before after
Does (Sync turns workers file watch peers) status moment nonce before after = IsSyncing status turns file watch peers before after
Does (Follow turns workers file watch peers) status moment nonce before after = IsFollowing status turns file watch peers before after
Does (Scan file watch) status moment nonce before after = IsScanned status before.files watch file before.written after.written
Does (Filter file height) status moment nonce before after = IsFiltered status before.files file height before.written after.written
Does (Address text) status moment nonce before after = IsAddressed status text before.written after.written
Does (Prove file txid) status moment nonce before after = IsProved status before.files file txid before.written after.written
Does (Check witness file chain) status moment nonce before after = IsChecked status witness before.files file chain before.written after.written
Does (Serve grow count at_once budget file address) status moment nonce before after =
    IsServing (is_some grow) status moment nonce before.files file address count before.link after.link × (after.written ≡ before.written)
Does (Make witness seed blocks file) status moment nonce before after = IsMaking status witness seed blocks file before.files after.files × (after.written ≡ before.written)
Does (Demo seed blocks) status moment nonce before after = IsDemoed status seed blocks before.written after.written after.played
