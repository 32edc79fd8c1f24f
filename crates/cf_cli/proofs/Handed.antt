-- What is promised of each thing that a run is handed: where it stays, and told of the words that ask for the command.
use Rattle.std.proofs.Common.{◌≡◌, ◌≢◌, ◌≤◌, ◌-◌, inr, ℕ, ℤ, Bool, true, false, List, Option, Some, None, refl, sym, ◌∙◌, subst}
use Rattle.std.specs.Prelude.{not, is_some, IfSome}
use Rattle.cf_bytes.specs.Files.{Named, ReadsFile, Opens, Parts, WritesFile, IsRead, IsAtMostWritten}
use Rattle.cf_bytes.specs.Outside.{HasRisen}
use Rattle.cf_run.specs.Whole.{AreNewWires}
use Rattle.cf_run.proofs.Versions.{new_greeting}
use Rattle.cf_wires.specs.Log.{Log, Told}
use Rattle.cf_wires.specs.declared.memory.MemoryWires.{MemoryWires}
use Rattle.cf_played.specs.declared.played.Played.{Played}
use Rattle.cf_input.specs.declared.words.Command.{Command}
use Rattle.cf_answers.specs.declared.status.Status.{Status}
use Rattle.cf_answers.specs.declared.status.Status.TheVariants.{Done, NoMemory, Usage, BadFile, FileFault, OutFault, NoPeers, Tired, Ended, LinkFault, NoNonce, NoHeight, NotThere, NotInChain, NotAddress}
use Rattle.cf_answers.specs.Statuses.{has_run, was_unbegun}
use Rattle.cf_loading.specs.Verdicts.{IsJudged, IsOfFile, Good, watch_verdict}
use Rattle.cf_cli.specs.Handed.{IsNewTape, RunsFiles, UsesFiles, UsesWires, UsesTape, UsesPlayed, UsesLink, UsesOut, UsesSpawner}
use Rattle.cf_cli_client.specs.Leaving.{RunsWires}
use Rattle.cf_cli_client.specs.Recording.{Records}
use Rattle.cf_cli.specs.Statuses.{is_recorded, may_dial, workers_in}
use Rattle.cf_tasks.specs.Starting.{ArePut}
use Rattle.cf_cli.proofs.Asking.{unasked}
use Rattle.cf_cli_client.proofs.Asking.{unwritten}
use Rattle.cf_cli_client.proofs.Tallies.{new_unfailed, versions_so}
use Rattle.cf_cli.proofs.Plays.{unplayed_greeting}
use Rattle.cf_cli.proofs.Records.{early_records, judged_once_begun, records_from}
use Rattle.std.specs.FinMap as finite

-- what isn't off is on
pub is_on : (b : Bool) → not b ≡ false → b ≡ true
is_on true on = refl
is_on false on = cc

-- an answer of which something is known that isn't so of another
pub is_not : (P : Status → Type 0) (status other : Status) → P status → (P other → ⊥) → status ≢ other
is_not P status other known none = λ is. none (subst P is known)

-- files of which nothing is asked
pub files_stay : {F : Type 0} {files : F → Option Named} {faults : F → ℕ} {reads : ReadsFile F} {opens : Opens F} {parts : Parts F} {writes : WritesFile F}
    {command : Option Command} {status : Status} {f : F} → status ≢ FileFault → UsesFiles files faults reads opens parts writes command status f f
files_stay {F} {files} {faults} {reads} {opens} {parts} {writes} {command} {status} {f} well = record {
  unchanged = λ off. refl;
  asked = unasked reads opens parts writes command f;
  fault = λ is. absurd (well is);
  fine = λ ne. refl;
}

-- new wires, which nothing passes
pub wires_stay : {W : Type 0} {told : W → Told} {keeps : W → Bool} {faults : W → ℕ} {moment : ℤ} {nonce : ℕ} {command : Option Command} {status : Status} {w : W}
    → AreNewWires (told w) → UsesWires told keeps faults moment nonce command status w w
wires_stay {W} {told} {keeps} {faults} {moment} {nonce} {command} {status} {w} new = record {
  versions = new_greeting (record { moment = moment; number = nonce }) (told w) new.log;
  failures = new_unfailed (told w) (faults w) (faults w) new.log;
  undialled = λ off. refl;
  unkept = λ off. refl;
}

-- a new tape, which nothing passes
pub tape_stays : {moment : ℤ} {nonce : ℕ} {command : Option Command} {status : Status} {tape : MemoryWires} → IsNewTape tape → UsesTape moment nonce command status tape tape
tape_stays {moment} {nonce} {command} {status} {tape} new = record {
  versions = unplayed_greeting (record { moment = moment; number = nonce }) _ new.log;
  unplayed = λ off. refl;
}

-- files of a run that wasn't begun, since the watch file is answered for or memory is wanting
pub unrun_files : {F : Type 0} {files : F → Option Named} {faults : F → ℕ} {reads : ReadsFile F} {opens : Opens F} {parts : Parts F} {writes : WritesFile F}
    {watch : List ℕ} {file : Option (List ℕ)} {log : Option Log} {status : Status} {before after : F}
    → IfSome (files before) (λ m. IsJudged (watch_verdict (finite.get m watch)) status) → IsOfFile status → files after ≡ files before
    → (status ≡ FileFault → HasRisen (faults before) (faults after)) → (status ≢ FileFault → faults after ≡ faults before) → IsRead reads watch before after
    → RunsFiles files faults reads opens parts writes watch file log status before after
unrun_files {F} {files} {faults} {reads} {opens} {parts} {writes} {watch} {file} {log} {status} {before} {after} judged is same fault fine read = record {
  judged = judged;
  asked = (after, inr (after, read, refl), unwritten writes file after);
  records = early_records status file log (files before) (files after) is same;
  fault = fault;
  fine = fine;
}

-- files of a run over a good watch file
pub run_files : {F : Type 0} {files : F → Option Named} {faults : F → ℕ} {reads : ReadsFile F} {opens : Opens F} {parts : Parts F} {writes : WritesFile F}
    {watch : List ℕ} {file : Option (List ℕ)} {log : Option Log} {status : Status} {before after : F} (between : F)
    → IfSome (files before) (λ m. watch_verdict (finite.get m watch) ≡ Good) → files between ≡ files before → faults between ≡ faults before → IsRead reads watch before between
    → was_unbegun status (is_some file) ≡ false → IsAtMostWritten writes file between after → Records status file log (files between) (files after)
    → (status ≡ FileFault → HasRisen (faults between) (faults after)) → (status ≢ FileFault → faults after ≡ faults between)
    → RunsFiles files faults reads opens parts writes watch file log status before after
run_files {F} {files} {faults} {reads} {opens} {parts} {writes} {watch} {file} {log} {status} {before} {after} between good same kept read begun written records fault fine = record {
  judged = judged_once_begun (files before) watch status (is_some file) good begun;
  asked = (between, inr (between, read, refl), written);
  records = records_from status file log (files before) (files between) (files after) same records;
  fault = λ is. subst (λ (n : ℕ). HasRisen n (faults after)) kept (fault is);
  fine = λ ne. fine ne ∙ kept;
}

-- wires of a command that may dial and record as the run did
pub dialled_wires : {W : Type 0} {told : W → Told} {keeps : W → Bool} {faults : W → ℕ} {z y : ℤ} {nonce : ℕ} {names : List (List ℕ)} {recorded : Bool} {command : Option Command} {status : Status} {before after : W}
    → may_dial command status ≡ not (was_unbegun status recorded) → is_recorded command ≡ recorded → z ≡ y
    → RunsWires told keeps faults (record { moment = z; number = nonce }) names recorded status before after → UsesWires told keeps faults y nonce command status before after
dialled_wires {W} {told} {keeps} {faults} {z} {y} {nonce} {names} {recorded} {command} {status} {before} {after} dials records same runs = record {
  versions = versions_so z y nonce (told after) same runs.versions;
  failures = runs.failures;
  undialled = λ off. runs.undialled (is_on (was_unbegun status recorded) (sym dials ∙ off));
  unkept = λ off. runs.unkept (sym records ∙ off);
}

pub files_so : {F : Type 0} {files : F → Option Named} {faults : F → ℕ} {reads : ReadsFile F} {opens : Opens F} {parts : Parts F} {writes : WritesFile F}
    {found : Option Command} {command : Command} {status : Status} {before after : F} → found ≡ Some command
    → UsesFiles files faults reads opens parts writes (Some command) status before after → UsesFiles files faults reads opens parts writes found status before after
files_so {F} {files} {faults} {reads} {opens} {parts} {writes} {found} {command} {status} {before} {after} is =
    subst (λ (o : Option Command). UsesFiles files faults reads opens parts writes o status before after) (sym is)

pub wires_so : {W : Type 0} {told : W → Told} {keeps : W → Bool} {faults : W → ℕ} {z y : ℤ} {nonce : ℕ} {found : Option Command} {command : Command} {status : Status} {before after : W}
    → found ≡ Some command → z ≡ y → UsesWires told keeps faults z nonce (Some command) status before after → UsesWires told keeps faults y nonce found status before after
wires_so {W} {told} {keeps} {faults} {z} {y} {nonce} {found} {command} {status} {before} {after} is same uses =
    subst (λ (o : Option Command). UsesWires told keeps faults y nonce o status before after) (sym is)
    (subst (λ (moment : ℤ). UsesWires told keeps faults moment nonce (Some command) status before after) same uses)

pub tape_so : {z y : ℤ} {nonce : ℕ} {found : Option Command} {command : Command} {status : Status} {before after : MemoryWires}
    → found ≡ Some command → z ≡ y → UsesTape z nonce (Some command) status before after → UsesTape y nonce found status before after
tape_so {z} {y} {nonce} {found} {command} {status} {before} {after} is same uses =
    subst (λ (o : Option Command). UsesTape y nonce o status before after) (sym is)
    (subst (λ (moment : ℤ). UsesTape moment nonce (Some command) status before after) same uses)

pub played_so : {found : Option Command} {command : Command} {before after : Played} → found ≡ Some command → UsesPlayed (Some command) before after → UsesPlayed found before after
played_so {found} {command} {before} {after} is = subst (λ (o : Option Command). UsesPlayed o before after) (sym is)

pub link_so : {L : Type 0} {faults : L → ℕ} {found : Option Command} {command : Command} {status : Status} {before after : L} → found ≡ Some command
    → UsesLink faults (Some command) status before after → UsesLink faults found status before after
link_so {L} {faults} {found} {command} {status} {before} {after} is = subst (λ (o : Option Command). UsesLink faults o status before after) (sym is)

pub out_so : {O : Type 0} {written : O → Option (List ℕ)} {faults : O → ℕ} {found : Option Command} {command : Command} {status : Status} {before after : O} → found ≡ Some command
    → UsesOut written faults (Some command) status before after → UsesOut written faults found status before after
out_so {O} {written} {faults} {found} {command} {status} {before} {after} is = subst (λ (o : Option Command). UsesOut written faults o status before after) (sym is)

-- a spawner of a command that wasn't carried out
unspawned_by : {K : Type 0} (moves : K → Bool → K → Type 0) (asked : Option ℕ) (status : Status) (before after : K) → has_run status ≡ false
    → IfSome asked (λ n. 1 ≤ n → n ≤ 64 → has_run status ≡ true → ArePut moves (n - 1) before after)
unspawned_by moves None status before after off = tt
unspawned_by moves (Some n) status before after off = λ some most on. cc

pub unspawned : {K : Type 0} {moves : K → Bool → K → Type 0} {command : Option Command} {status : Status} {before after : K} → has_run status ≡ false
    → UsesSpawner moves command status before after
unspawned {K} {moves} {command} {status} {before} {after} off = record { workers = unspawned_by moves (workers_in command) status before after off }

-- an answer to a file that couldn't be read, or was refused: nothing was carried out
pub unrun_of_file : (status : Status) → IsOfFile status → has_run status ≡ false
unrun_of_file NoMemory is = refl
unrun_of_file FileFault is = refl
unrun_of_file (BadFile which place cause) is = refl
unrun_of_file Done is = absurd is
unrun_of_file Usage is = absurd is
unrun_of_file OutFault is = absurd is
unrun_of_file (NoPeers ends) is = absurd is
unrun_of_file Tired is = absurd is
unrun_of_file Ended is = absurd is
unrun_of_file LinkFault is = absurd is
unrun_of_file (NoNonce height) is = absurd is
unrun_of_file (NoHeight tip) is = absurd is
unrun_of_file (NotThere txid) is = absurd is
unrun_of_file (NotInChain block) is = absurd is
unrun_of_file (NotAddress cause) is = absurd is

-- as many tasks as were asked for, where that is how many there are to be
pub put_as : {K : Type 0} (moves : K → Bool → K → Type 0) {given asked : ℕ} (before after : K) → given ≡ asked → ArePut moves (given - 1) before after
    → ArePut moves (asked - 1) before after
put_as {K} moves {given} {asked} before after same put = subst (λ (n : ℕ). ArePut moves (n - 1) before after) same put

pub spawner_so : {K : Type 0} {moves : K → Bool → K → Type 0} {found : Option Command} {command : Command} {status : Status} {before after : K} → found ≡ Some command
    → UsesSpawner moves (Some command) status before after → UsesSpawner moves found status before after
spawner_so {K} {moves} {found} {command} {status} {before} {after} is =
    subst (λ (o : Option Command). UsesSpawner moves o status before after) (sym is)
