-- statement: what is promised of each thing that a run is handed.
use Rattle.std.specs.Prelude.{◌≡◌, ◌≢◌, ◌≤◌, ◌-◌, ℕ, ℤ, Bool, true, false, List, [], ◌∷◌, Option, IfSome}
use Rattle.std.specs.FinMap as finite
use Rattle.cf_bytes.specs.Files.{Named, ReadsFile, Opens, Parts, WritesFile}
use Rattle.cf_bytes.specs.Outside.{HasRisen}
use Rattle.cf_run.specs.Run.{HasFailed}
use Rattle.cf_run.specs.Versions.{HasGreeting, IsOfGreeting}
use Rattle.cf_wires.specs.Log.{Log, Told}
use Rattle.cf_wires.specs.Memory.{log_of, failing_of, finished_of}
use Rattle.cf_wires.specs.declared.memory.MemoryWires.{MemoryWires}
use Rattle.cf_played.specs.Told.{log_of as played_log, peers_of, finished_of as has_finished}
use Rattle.cf_played.specs.declared.played.Played.{Played}
use Rattle.cf_input.specs.declared.words.Command.{Command}
use Rattle.cf_answers.specs.Statuses.{has_run}
use Rattle.cf_answers.specs.declared.status.Status.{Status}
use Rattle.cf_answers.specs.declared.status.Status.TheVariants.{FileFault, LinkFault}
use Rattle.cf_loading.specs.Asking.{Whole}
use Rattle.cf_loading.specs.Verdicts.{IsJudged, watch_verdict}
use Rattle.cf_cli.specs.Asking.{AreAsked, AsksFor}
use Rattle.cf_cli_demo.specs.Demo.{may_show}
use Rattle.cf_cli_client.specs.Recording.{Records}
use Rattle.cf_cli.specs.Statuses.{is_recorded, may_write}
use Rattle.cf_cli_serve.specs.Serving.{may_serve}
use Rattle.cf_cli.specs.Statuses.{goes_on, may_dial, may_play, may_say, workers_in}
use Rattle.cf_cli_client.specs.Leaving.{CountsOn}
use Rattle.cf_tasks.specs.Starting.{ArePut}

-- nothing has passed the tape, no call of it is to fail, and it isn't finished
pub record IsNewTape (tape : MemoryWires) : Type 0 where
  pub log : log_of tape ≡ []
  pub failing : failing_of tape ≡ []
  pub finished : finished_of tape ≡ false

-- nothing has passed the played peers, there are none yet, and they aren't finished
pub record IsNewPlayed (played : Played) : Type 0 where
  pub log : played_log played ≡ []
  pub peers : peers_of played ≡ []
  pub finished : has_finished played ≡ false

-- The files: the watch file is judged first, it alone is read, what becomes of them goes by the answer and by the log, and their count of faults has risen
-- where they are to blame, and stays with any other answer.
pub record RunsFiles {F : Type 0} (files : F → Option Named) (faults : F → ℕ) (reads : ReadsFile F) (opens : Opens F) (parts : Parts F) (writes : WritesFile F)
    (watch : List ℕ) (file : Option (List ℕ)) (log : Option Log) (status : Status) (before after : F) : Type 0 where
  pub judged : IfSome (files before) (λ m. IsJudged (watch_verdict (finite.get m watch)) status)
  pub asked : AsksFor reads opens parts writes (Whole watch ∷ []) file before after
  pub records : Records status file log (files before) (files after)
  pub fault : status ≡ FileFault → HasRisen (faults before) (faults after)
  pub fine : status ≢ FileFault → faults after ≡ faults before

-- The files: a command that writes none changes none, what is asked of them is what the command asks, and their count of faults has risen where they are to
-- blame, and stays with any other answer.
pub record UsesFiles {F : Type 0} (files : F → Option Named) (faults : F → ℕ) (reads : ReadsFile F) (opens : Opens F) (parts : Parts F) (writes : WritesFile F)
    (command : Option Command) (status : Status) (before after : F) : Type 0 where
  pub unchanged : may_write command ≡ false → files after ≡ files before
  pub asked : AreAsked reads opens parts writes command before after
  pub fault : status ≡ FileFault → HasRisen (faults before) (faults after)
  pub fine : status ≢ FileFault → faults after ≡ faults before

-- The wires: each version that was sent tells the moment and the random number, where a call has failed their count of faults has risen, what they tell
-- stays unless the command may dial, and they keep their log no more than before unless it asks for a record.
pub record UsesWires {W : Type 0} (told : W → Told) (keeps : W → Bool) (faults : W → ℕ) (moment : ℤ) (nonce : ℕ)
    (command : Option Command) (status : Status) (before after : W) : Type 0 where
  pub versions : HasGreeting (record { moment = moment; number = nonce }) (told after)
  pub failures : IfSome (told after).log (λ log. HasFailed log → HasRisen (faults before) (faults after))
  pub undialled : may_dial command status ≡ false → told after ≡ told before
  pub unkept : is_recorded command ≡ false → keeps after ≡ keeps before

-- the tape: each version that was sent tells the moment and the random number, and it stays unless the command may play it
pub record UsesTape (moment : ℤ) (nonce : ℕ) (command : Option Command) (status : Status) (before after : MemoryWires) : Type 0 where
  pub versions : IsOfGreeting (record { moment = moment; number = nonce }) (log_of after)
  pub unplayed : may_play command status ≡ false → after ≡ before

-- the played peers: they stay unless the command may show them
pub record UsesPlayed (command : Option Command) (before after : Played) : Type 0 where
  pub unshown : may_show command ≡ false → after ≡ before

-- the link: it stays unless the command may serve, and its count of faults has risen where it is to blame, and stays with any other answer
pub record UsesLink {L : Type 0} (faults : L → ℕ) (command : Option Command) (status : Status) (before after : L) : Type 0 where
  pub unserved : may_serve command status ≡ false → after ≡ before
  pub fault : status ≡ LinkFault → HasRisen (faults before) (faults after)
  pub fine : status ≢ LinkFault → faults after ≡ faults before

-- The sink: nothing is written to it unless the command may say something, and how often it has failed is told by the answer, and by whether the command goes
-- on once it has.
pub record UsesOut {O : Type 0} (written : O → Option (List ℕ)) (faults : O → ℕ) (command : Option Command) (status : Status) (before after : O) : Type 0 where
  pub unwritten : may_say command status ≡ false → written after ≡ written before
  pub counts : CountsOn (goes_on command) status (faults before) (faults after)

-- The spawner: a command that was carried out has put to it a task for each thread that it asks for to judge filters, from 1 to 64, but for the one that it
-- runs in.
pub record UsesSpawner {K : Type 0} (moves : K → Bool → K → Type 0) (command : Option Command) (status : Status) (before after : K) : Type 0 where
  pub workers : IfSome (workers_in command) (λ n. 1 ≤ n → n ≤ 64 → has_run status ≡ true → ArePut moves (n - 1) before after)
