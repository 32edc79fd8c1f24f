-- A chain that a message makes longer.
use Rattle.std.proofs.Common.{◌≡◌, Bool, true, List, [], ◌∷◌, ◌++◌, sym, ap, ◌∙◌, Option, Some, None, Ok}
use Rattle.std.specs.Prelude.{is_none, if◌then◌else◌}
use Rattle.cf_block.specs.declared.tx.Block.{Block}
use Rattle.cf_chain.specs.Grow.{grown}
use Rattle.cf_frame.specs.declared.frame.Frame.{Frame}
use Rattle.cf_walk.specs.declared.cause.RecordCause.{RecordCause}
use Rattle.cf_walk.specs.Files.{cause_on}
use Rattle.cf_msg.specs.declared.msg.Msg.TheVariants.{Block as BlockMessage}
use Rattle.cf_msg.specs.Reading.{message_of}
use Rattle.cf_grow.specs.Growing.{BringsNone, fits_on}

pub grows_by : (blocks new : List Block) (b : Block) → cause_on blocks b ≡ None → new ≡ blocks ++ b ∷ []
    → new ≡ grown fits_on blocks true (BlockMessage b)
grows_by blocks new b fit is = is
    ∙ sym (ap (λ (o : Option RecordCause). if is_none o then blocks ++ b ∷ [] else blocks) fit)

pub stays_by : (blocks new : List Block) (b : Block) (e : RecordCause) → cause_on blocks b ≡ Some e → new ≡ blocks
    → new ≡ grown fits_on blocks true (BlockMessage b)
stays_by blocks new b e bad is = is
    ∙ sym (ap (λ (o : Option RecordCause). if is_none o then blocks ++ b ∷ [] else blocks) bad)

-- a frame whose block may not stand on a chain
pub brings_none : (blocks : List Block) (b : Block) (f : Frame) (e : RecordCause) → message_of f ≡ Ok (BlockMessage b) → cause_on blocks b ≡ Some e
    → BringsNone blocks f
brings_none blocks b f e brings bad other is =
    let both = sym is ∙ brings in
    let same : other ≡ b = cc in
    ap is_none (ap (cause_on blocks) same ∙ bad)

-- its block isn't put on
pub stays_refused : (blocks : List Block) (b : Block) (f : Frame) → BringsNone blocks f → message_of f ≡ Ok (BlockMessage b)
    → blocks ≡ grown fits_on blocks true (BlockMessage b)
stays_refused blocks b f none brings = sym (ap (λ (fits : Bool). if fits then blocks ++ b ∷ [] else blocks) (none b brings))

-- whether a block is put on
pub ruleset put_so = (grows_by, stays_by, brings_none)
