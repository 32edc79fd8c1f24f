-- statement: how a run that was made is told.
use Rattle.std.specs.Prelude.{◌≡◌, ◌≢◌, ◌⊎◌, ◌≤◌, ℕ, Bool, true, List, length, take, Option}
use Rattle.cf_bytes.specs.Outside.{with_more}
use Rattle.cf_place.specs.declared.place.PeerEnd.{PeerEnd}
use Rattle.cf_run.specs.declared.outcome.End.{End}
use Rattle.cf_answers.specs.declared.status.Status.{Status}
use Rattle.cf_answers.specs.declared.status.Status.TheVariants.{NoMemory, FileFault, OutFault}
use Rattle.cf_cli_client.specs.Theorem.{AnswersTo}

-- the whole text of a run that ended so was written, or a beginning of it where the sink has failed
abbrev pub IsSaid : Status → End → List PeerEnd → List ℕ → Option (List ℕ) → Option (List ℕ) → Type 0
IsSaid status end ends text before after =
    (AnswersTo end ends status × (after ≡ with_more before text))
    ⊎ ((status ≡ OutFault) × ((n : ℕ) × (n ≤ length text) × (after ≡ with_more before (take n text))))

-- memory was wanting, or the record that is asked for could not be written
abbrev pub IsStopped : Status → Bool → Type 0
IsStopped status recorded = (status ≡ NoMemory) ⊎ ((status ≡ FileFault) × (recorded ≡ true))

-- How a run that ended so was told: its text was written, or a beginning of it, or nothing where it was stopped before; and how each peer stands was put, unless
-- memory was wanting.
pub record IsTold (status : Status) (recorded : Bool) (end : End) (ends : List PeerEnd) (text : List ℕ) (before after : Option (List ℕ))
    (was now : List PeerEnd) : Type 0 where
  pub said : IsSaid status end ends text before after ⊎ (IsStopped status recorded × (after ≡ before))
  pub put : (now ≡ ends) ⊎ ((status ≡ NoMemory) × (now ≡ was))

-- what is answered where a record is written of a run that was answered so: the same; or memory was wanting, for the run or for the record; or it could not be
-- written
abbrev pub IsAnswered : Status → Bool → Status → Type 0
IsAnswered status recorded run =
    ((status ≡ run) × (run ≢ NoMemory))
    ⊎ (((status ≡ NoMemory) × ((run ≡ NoMemory) ⊎ (recorded ≡ true))) ⊎ ((status ≡ FileFault) × (recorded ≡ true) × (run ≢ NoMemory)))
