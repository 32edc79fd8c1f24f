-- statement: what a run of the client leaves of the files, the wires and the sink that it is handed.
use Rattle.std.specs.Prelude.{◌≡◌, ◌≢◌, ℕ, Bool, true, false, List, length, Option, IfSome}
use Rattle.cf_bytes.specs.Files.{Named, WritesFile, IsAtMostWritten}
use Rattle.cf_bytes.specs.Outside.{HasRisen}
use Rattle.cf_place.specs.Standing.{Greeting}
use Rattle.cf_run.specs.Run.{HasDialled, HasFailed}
use Rattle.cf_run.specs.Versions.{HasGreeting}
use Rattle.cf_wires.specs.Log.{Log, Told}
use Rattle.cf_answers.specs.declared.status.Status.{Status}
use Rattle.cf_answers.specs.declared.status.Status.TheVariants.{NoMemory, FileFault, OutFault}
use Rattle.cf_answers.specs.Statuses.{was_unbegun}
use Rattle.cf_cli_client.specs.Following.{CutShort, GivenUp, KeptOn, TalliedOn, WasOverOn}
use Rattle.cf_cli_client.specs.Recording.{Records}
use Rattle.cf_cli_client.specs.Theorem.{KeptOnce, Tallied, WasOver}

-- A run that ends once nothing is open: the sync theorem over the log of the wires, where they tell it, with the scripts that are watched; what holds over any
-- wires; and that the run was over unless memory was wanting.
pub record RunsOnce (status : Status) (turns : ℕ) (recorded trace : Bool) (scripts names : List (List ℕ)) (before after : Option (List ℕ))
    (was now : Told) : Type 0 where
  pub kept : IfSome now.log (λ log. KeptOnce status recorded trace scripts names before after log)
  pub tallied : Tallied status turns (length names) was now
  pub over : status ≢ NoMemory → WasOver turns now

-- A run that follows and puts each text at once: the follow theorem over the log of the wires, where they tell it, with what was put where it was given up; and
-- what holds over any wires.
pub record RunsOn (status : Status) (turns : ℕ) (recorded : Bool) (scripts names : List (List ℕ)) (before after : Option (List ℕ)) (old new : ℕ)
    (was now : Told) : Type 0 where
  pub kept : IfSome now.log (λ log. KeptOn status recorded false scripts names before after log)
  pub given_up : IfSome now.log (λ log. GivenUp status scripts names before after old new log)
  pub tallied : TalliedOn status turns (length names) was now

-- The same of a run that writes its texts once it is over: where the sink has failed, a beginning of them was written, and the run was over.
pub record RunsOnTape (status : Status) (turns : ℕ) (trace : Bool) (scripts names : List (List ℕ)) (before after : Option (List ℕ))
    (was now : Told) : Type 0 where
  pub kept : IfSome now.log (λ log. KeptOn status false trace scripts names before after log)
  pub refused : status ≡ OutFault → IfSome now.log (λ log. CutShort trace scripts names before after log)
  pub over : status ≡ OutFault → WasOverOn turns now
  pub tallied : TalliedOn status turns (length names) was now

-- The files: what becomes of them goes by the answer and by the log, at most the record was written, and their count of faults has risen where they are to
-- blame, and stays with any other answer.
pub record LeavesFiles {F : Type 0} (files : F → Option Named) (faults : F → ℕ) (writes : WritesFile F) (file : Option (List ℕ)) (log : Option Log)
    (status : Status) (before after : F) : Type 0 where
  pub records : Records status file log (files before) (files after)
  pub written : IsAtMostWritten writes file before after
  pub fault : status ≡ FileFault → HasRisen (faults before) (faults after)
  pub fine : status ≢ FileFault → faults after ≡ faults before

-- The wires: the names were dialled in order, each version that was sent tells this greeting, where a call has failed their count of faults has risen, they keep
-- their log no more than before unless it is to be recorded, and what they tell stays where no run was begun.
pub record RunsWires {W : Type 0} (told : W → Told) (keeps : W → Bool) (faults : W → ℕ) (greeting : Greeting) (names : List (List ℕ)) (recorded : Bool)
    (status : Status) (before after : W) : Type 0 where
  pub dialled : HasDialled names (told after)
  pub versions : HasGreeting greeting (told after)
  pub failures : IfSome (told after).log (λ log. HasFailed log → HasRisen (faults before) (faults after))
  pub unkept : recorded ≡ false → keeps after ≡ keeps before
  pub undialled : was_unbegun status recorded ≡ true → told after ≡ told before

-- How often the sink has failed, by the answer, and by whether what is done goes on once it has: more often with OutFault, and not once more with any other
-- answer. Only where it goes on do FileFault and NoMemory leave it open, since a record can fail behind the sink.
pub record CountsOn (goes_on : Bool) (status : Status) (before after : ℕ) : Type 0 where
  pub fault : status ≡ OutFault → HasRisen before after
  pub fine : status ≢ OutFault → (goes_on ≡ true → (status ≢ FileFault) × (status ≢ NoMemory)) → after ≡ before
