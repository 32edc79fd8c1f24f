-- statement: what reading the words answers.
use Rattle.std.specs.Prelude.{◌≡◌, Option, Some, None, Result, Ok, Err}
use Rattle.cf_bytes.specs.declared.memory.Refused.{Refused}
use Rattle.cf_bytes.specs.declared.memory.Refused.TheVariants.{No, NoMemory}
use Rattle.clap.specs.declared.error.kind.ErrorKind.{ErrorKind}
use Rattle.clap.specs.declared.error.kind.ErrorKind.TheVariants as kind
use Rattle.cf_input.specs.declared.words.Usage.{Usage}

-- a value that was asked for, or a refusal where there is none
abbrev pub GivesOrUsage : {X : Type 0} → Option X → Result X (Refused Usage) → Type 0
GivesOrUsage found (Ok x) = found ≡ Some x
GivesOrUsage found (Err (No e)) = found ≡ None
GivesOrUsage found (Err NoMemory) = Unit {0}

-- a fact where the words are refused
abbrev pub IfUsage : Refused Usage → Type 0 → Type 0
IfUsage (No e) P = P
IfUsage NoMemory P = Unit {0}

-- clap's error is want of memory, or it refuses the words
abbrev pub refusal_of : ErrorKind → Refused Usage
refusal_of kind.OutOfMemory = NoMemory
refusal_of _ = No (record {})
