-- A session's end.
use Rattle.std.proofs.Common.{◌≡◌, ◌<◌, true, false, List, [], ◌∷◌, length, refl, ap, ◌∙◌, arith}
use Rattle.std.specs.Prelude.{Result, Ok, Err}
use Rattle.cf_bytes.specs.Cut.{◌>>=◌}
use Rattle.cf_bytes.specs.declared.memory.Refused.{Refused}
use Rattle.cf_bytes.specs.declared.memory.Refused.TheVariants.{No, NoMemory}
use Rattle.cf_wires.specs.Wires.{WireScript}
use Rattle.cf_input.specs.Lines.{GivesRead}
use Rattle.cf_input.specs.SessionFile.{is_none, dialled}
use Rattle.cf_input.specs.declared.session.SessionCause.TheVariants.{NoDial}
use Rattle.cf_input.specs.declared.session.SessionFault.{SessionFault}

-- what is refused first is refused for good
pub stops_then : {A X Y E : Type 0} (view : A → X) (view' : A → Y) (all : Result X E) (f : X → Result Y E) (r : Refused E)
    → GivesRead view all (Err r) → GivesRead view' (all >>= f) (Err r)
stops_then view view' all f (No e) h = rw h refl
stops_then view view' all f NoMemory h = tt

none_is : {X : Type 0} (xs : List X) → length xs ≡ 0 → is_none xs ≡ true
none_is [] h = refl
none_is (x ∷ xs) h = absurd (omega arith)

some_is : {X : Type 0} (xs : List X) → 0 < length xs → is_none xs ≡ false
some_is [] h = absurd (omega arith)
some_is (x ∷ xs) h = refl

pub no_dial : (all : Result WireScript SessionFault) (s : WireScript) → all ≡ Ok s → length s.dials ≡ 0 → (all >>= dialled) ≡ Err (record { cause = NoDial; place = 1 })
no_dial all s h none = ap (λ r. r >>= dialled) h ∙ rw (none_is s.dials none) refl

pub some_dial : (all : Result WireScript SessionFault) (s : WireScript) → all ≡ Ok s → 0 < length s.dials → (all >>= dialled) ≡ Ok s
some_dial all s h some = ap (λ r. r >>= dialled) h ∙ rw (some_is s.dials some) refl
