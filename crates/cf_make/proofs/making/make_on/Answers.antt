use Rattle.std.proofs.Common.{List, [], ◌∷◌, ◌+◌, sym, ◌∙◌, ap, subst, arith}
use Rattle.cf_block.specs.declared.tx.Block.{Block}
use Rattle.cf_make.specs.Made.{IsExtension, tip_after, genesis_tip}
use Rattle.cf_make.proofs.Blocks.{one_more, tip_append}
use Rattle.cf_make.proofs.making.make_on.Goals as goal

pub loop-preserved : goal.loop-preserved
loop-preserved c =
    let b = c.in_ok-made.made.block in
    let i = c.loop.invariant in
    record {
      extends = subst (λ (s : List Block). IsExtension c.args.base c.args.seed (c.loop.counter + 1) s) (sym c.in_ok-push.ensures.ok)
          (one_more c.args.base c.loop.whole c.args.seed c.loop.counter c.loop.height c.loop.tip b i.extends i.height i.tip c.in_ok-made.ensures.block);
      height = omega (arith, i.height);
      tip = c.in_ok-made.ensures.next ∙ sym (ap (tip_after genesis_tip) c.in_ok-push.ensures.ok ∙ tip_append genesis_tip c.loop.whole (b ∷ []));
    }
