-- statement: what is told of how each peer stands at the end of a run.
use Rattle.std.specs.Prelude.{◌≡◌, ◌⊎◌, ℕ, Bool, true, List, Option, IfSome}
use Rattle.cf_place.specs.declared.place.PeerEnd.{PeerEnd}
use Rattle.cf_place.specs.Standing.{EndsTell}
use Rattle.cf_wires.specs.Log.{Log, Told}
use Rattle.cf_answers.specs.declared.status.Status.{Status}
use Rattle.cf_answers.specs.Statuses.{has_run, is_over, was_unbegun}
use Rattle.cf_cli_client.specs.Theorem.{IsWhole}

-- where the log is told, there is an end for each peer that was dialled, in the order of their numbers, and each tells how its peer stands
abbrev pub AreEndsOf : Option Log → List PeerEnd → Type 0
AreEndsOf log ends = IfSome log (EndsTell ends)

-- these wires tell that so many peers were dialled and that they are finished; and where they tell a log, these are its ends
pub record AreEndsBy (names : ℕ) (now : Told) (ends : List PeerEnd) : Type 0 where
  pub whole : IsWhole names now
  pub tell : AreEndsOf now.log ends

-- The ends after a run that was answered so: once it was made, as the answer makes sure, they are those of its log, and where none was begun they are what was
-- handed in. With each answer they are one of both, and those of a log only where all peers were dialled and the wires are finished.
pub record AreEndsOnce (made : Bool) (status : Status) (recorded : Bool) (names : ℕ) (now : Told) (before after : List PeerEnd) : Type 0 where
  pub told : made ≡ true → AreEndsBy names now after
  pub unbegun : was_unbegun status recorded ≡ true → after ≡ before
  pub either : (after ≡ before) ⊎ AreEndsBy names now after

-- the same of a run that writes its text once it is over: it was made where the command was carried out
abbrev pub AreEndsAfter : Status → Bool → ℕ → Told → List PeerEnd → List PeerEnd → Type 0
AreEndsAfter status recorded names now before after = AreEndsOnce (has_run status) status recorded names now before after

-- and of a run that writes as it goes on, which may fail before it is over
abbrev pub AreEndsOver : Status → Bool → ℕ → Told → List PeerEnd → List PeerEnd → Type 0
AreEndsOver status recorded names now before after = AreEndsOnce (is_over status) status recorded names now before after
