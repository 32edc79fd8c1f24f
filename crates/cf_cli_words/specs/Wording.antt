-- statement: the headline of the program, by its words as they are written.
use Rattle.std.specs.Prelude.{◌≡◌, ℕ, ℤ, true, false, List, [], Some, IfSome}
use Rattle.std.specs.List.{list_all}
use Rattle.cf_answers.specs.declared.status.Status.{Status}
use Rattle.cf_answers.specs.declared.status.Status.TheVariants.{NoMemory}
use Rattle.cf_answers.specs.Statuses.{was_refused, was_unbegun}
use Rattle.cf_cli.specs.Doing.{Around, Does}
use Rattle.cf_cli_headline.specs.Kept.{HeadlineOver}
use Rattle.cf_headline.specs.Grounds.{WereGreeted}
use Rattle.cf_input.specs.Words.{are_names, command_of}
use Rattle.cf_input.specs.declared.words.Command.{Command}
use Rattle.cf_plain.specs.Plain.{is_plain}
use Rattle.cf_wires.specs.Log.{Log}

-- what is done is what the words ask for
abbrev pub DoesAsked : List (List ℕ) → Status → ℤ → ℕ → Around → Around → Type 0
DoesAsked words status moment nonce before after =
    (c : Command) → command_of words ≡ Some c → Does c status moment nonce before after

-- one to eight names of peers, none of which begins with `-`
pub record ArePlainPeers (peers : List (List ℕ)) : Type 0 where
  pub plain : list_all is_plain peers ≡ true
  pub names : are_names peers ≡ true

-- nothing has passed the wires before, where they tell their log, and they stay where no run was begun
pub record UsesNewWires (status : Status) (before after : Around) : Type 0 where
  pub fresh : IfSome before.wires.log (λ log. log ≡ [])
  pub stays : was_unbegun status false ≡ true → after.wires ≡ before.wires

-- the same of the tape
pub record UsesNewTape (status : Status) (before after : Around) : Type 0 where
  pub fresh : before.taped ≡ []
  pub stays : was_refused status ≡ true → after.taped ≡ before.taped

-- where memory was wanting, who was there when a delivery was taken had been sent a version
abbrev pub GreetsWanting : Status → Log → Type 0
GreetsWanting status log = status ≡ NoMemory → WereGreeted log

-- the headline over wires, where they tell their log
abbrev pub HeadlineOverWires : Status → List (List ℕ) → Around → Around → Type 0
HeadlineOverWires status scripts before after = IfSome after.wires.log
    (λ log. GreetsWanting status log → HeadlineOver status scripts before.written after.written log)

-- and over the tape
abbrev pub HeadlineOverTape : Status → List (List ℕ) → Around → Around → Type 0
HeadlineOverTape status scripts before after =
    GreetsWanting status after.taped → HeadlineOver status scripts before.written after.written after.taped
