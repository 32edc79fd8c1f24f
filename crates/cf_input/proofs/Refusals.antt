-- Clap's errors.
use Rattle.std.proofs.Common.{◌≡◌, false, List, [], ◌∷◌, refl, inl, inr}
use Rattle.clap.specs.Words.{kind_of, HasKind, IsAmong}
use Rattle.clap.specs.declared.error.Error.{Error}
use Rattle.clap.specs.declared.error.kind.ErrorKind.{ErrorKind}
use Rattle.cf_bytes.specs.declared.memory.Refused.{Refused}
use Rattle.cf_bytes.specs.declared.memory.Refused.TheVariants.{No, NoMemory}
use Rattle.cf_input.specs.Commands.{IfUsage, refusal_of}
use Rattle.cf_input.specs.Words.{is_faultless}
use Rattle.cf_input.specs.declared.words.Usage.{Usage}

of_each : {P : Type 0} (r : Refused Usage) → P → IfUsage r P
of_each (No e) p = p
of_each NoMemory p = tt

some_kind : (k : ErrorKind) (kinds : List ErrorKind) → IsAmong k kinds → is_faultless kinds ≡ false
some_kind k [] h = absurd h
some_kind k (x ∷ xs) h = refl

pub refused_by : (kinds : List ErrorKind) (e : Error) → HasKind kinds e → IfUsage (refusal_of (kind_of e)) (is_faultless kinds ≡ false)
refused_by kinds e (inl h) = rw h tt
refused_by kinds e (inr h) = of_each (refusal_of (kind_of e)) (some_kind (kind_of e) kinds h)
