-- Lists of connections in memory that are new.
use Rattle.std.proofs.Common.{◌≡◌, List, [], ◌∷◌, ◌++◌, ◌∙◌, ap, sym, subst, false, All}
use Rattle.std.proofs.lemmas.List.Elements.{All-append, All-nil, All-cons}
use Rattle.cf_conn.specs.MemoryConn.{BothWays}

-- a connection that hasn't ended, of which no call has failed, and to which nothing was written
abbrev pub IsNew : BothWays → Type 0
IsNew c = (c.source.ended ≡ false) × (c.source.plan.faults ≡ 0) × (c.sink.plan.faults ≡ 0) × (c.sink.bytes ≡ [])

-- one more, in a list that was given room
pub one_longer : (cs ds es : List BothWays) (c : BothWays) → ds ≡ cs → es ≡ ds ++ c ∷ [] → All IsNew cs → IsNew c → All IsNew es
one_longer cs ds es c e f all one = subst (All IsNew) (sym (f ∙ ap (λ l. l ++ c ∷ []) e)) (All-append IsNew cs (c ∷ []) all (All-cons IsNew c [] one (All-nil IsNew)))
