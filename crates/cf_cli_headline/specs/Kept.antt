-- statement: the headline of a run of the program, by its log and by what was written.
use Rattle.std.specs.Prelude.{◌≡◌, ◌≢◌, ℕ, true, List, [], Option, Some}
use Rattle.std.specs.FinMap.{get}
use Rattle.std.specs.List.{AllByRecursion}
use Rattle.cf_bytes.specs.Cut.{IsBytes}
use Rattle.cf_bytes.specs.Files.{Named}
use Rattle.cf_bytes.specs.Outside.{with_more}
use Rattle.cf_wires.specs.Log.{Log}
use Rattle.cf_plain.specs.Plain.{watch_lines}
use Rattle.cf_answers.specs.declared.status.Status.{Status}
use Rattle.cf_answers.specs.declared.status.Status.TheVariants.{Done, FileFault, NoMemory}
use Rattle.cf_answers.specs.Statuses.{was_refused}
use Rattle.cf_headline.specs.Grounds.{WereGreeted}
use Rattle.cf_headline.specs.Headline.{Headline}

-- the headline of a run, whose text was written where it answered Done
pub record HeadlineOver (status : Status) (scripts : List (List ℕ)) (before after : Option (List ℕ)) (log : Log) : Type
    0 where
  pub text : List ℕ
  pub written : status ≡ Done → after ≡ with_more before text
  pub headline : Headline (status ≡ Done) scripts text log

-- Of an answer to which no run came: where the words or a file were refused, nothing has passed; and where memory was
-- wanting, who was there when a delivery was taken had been sent a version. (A record that can't be written is told
-- with the run.)
pub record GreetsUnrun (status : Status) (log : Log) : Type 0 where
  pub refused : was_refused status ≡ true → status ≢ FileFault → log ≡ []
  pub greeted : status ≡ NoMemory → WereGreeted log

-- among the files there is a watch file of these scripts
pub record HasScripts (files : Option Named) (watch : List ℕ) (scripts : List (List ℕ)) : Type 0 where
  pub named : Named
  pub told : files ≡ Some named
  pub there : get named watch ≡ Some (watch_lines scripts)
  pub bytes : AllByRecursion IsBytes scripts
