use Rattle.std.proofs.Common.{List, sym, subst}
use Rattle.std.specs.List.{AllByRecursion}
use Rattle.cf_block.specs.declared.tx.Block.{Block}
use Rattle.cf_bytes.specs.declared.memory.Refused.{Refused}
use Rattle.cf_walk.specs.declared.cause.RecordCause.{RecordCause}
use Rattle.cf_walk.specs.Files.{cause_on}
use Rattle.cf_walk.specs.Progress.{RefusesFor}
use Rattle.cf_grow.specs.Growing.{BringsNone}
use Rattle.cf_grow.proofs.Grows.{brings_none}
use Rattle.cf_grow.proofs.grown.Grown.put.Goals as goal

pub invariant_of-self-in-No-1 : goal.invariant_of-self-in-No-1
invariant_of-self-in-No-1 g c =
    let index = c.self.inside.index in
    let bad = subst (λ (e : Refused RecordCause). RefusesFor (cause_on index c.args.block) e) c.in-Err-No.field-0-is c.in-Err-No.ensures.exact in
    subst (λ (bs : List Block). AllByRecursion (BringsNone bs) c.keep.new.self) (sym c.in-Err-No.ensures.same)
    (c.keep.ensures index c.self.invariant (brings_none index c.args.block c.args.frame c.in-Err-No._cause c.requires.brings bad))
