-- statement: what is written of a text, and the lines of which texts are made.
use Rattle.std.specs.Prelude.{◌≡◌, ◌≢◌, ℕ, ◌≤◌, List, [], ◌∷◌, ◌++◌, length, take, Option}
use Rattle.cf_bytes.specs.Outside.{HasRisen, with_more}
use Rattle.cf_answers.specs.declared.status.Status.{Status}
use Rattle.cf_answers.specs.declared.status.Status.TheVariants.{Done, NoMemory, BadFile, FileFault, OutFault}

-- how often the sink has failed, by the answer: more often where the sink is to blame for it, and not once more with any other answer
pub record CountsOut (status : Status) (before after : ℕ) : Type 0 where
  pub fault : status ≡ OutFault → HasRisen before after
  pub fine : status ≢ OutFault → after ≡ before

-- NAME VALUE, ended by LF
abbrev pub named_line : List ℕ → List ℕ → List ℕ
named_line name value = name ++ (32 ∷ (value ++ 10 ∷ []))

-- a command that has this text to write and no other answer: all of it was written, or the sink failed and a beginning of it was, or nothing
abbrev pub IsWritten : Status → Option (List ℕ) → Option (List ℕ) → List ℕ → Type 0
IsWritten Done before after text = after ≡ with_more before text
IsWritten OutFault before after text = (n : ℕ) × (n ≤ length text) × (after ≡ with_more before (take n text))
IsWritten NoMemory before after text = after ≡ before
IsWritten FileFault before after text = after ≡ before
IsWritten (BadFile which place cause) before after text = after ≡ before
IsWritten status before after text = ⊥

-- the answers of a command that has only a text to write
abbrev pub IsOfText : Status → Type 0
IsOfText Done = Unit {0}
IsOfText NoMemory = Unit {0}
IsOfText OutFault = Unit {0}
IsOfText status = ⊥
