use Rattle.std.proofs.Common.{None, Some, refl}
use Rattle.cf_grow.proofs.Marks.{top_is, top_none}
use Rattle.cf_grow.proofs.taking.top_of.Goals as goal

pub returns-in-Some : goal.returns-in-Some
returns-in-Some c = top_is c.args.index.now c.tip-tip.result (Some c.in-Some.hash) c.in-Some.hash c.tip-tip.ensures.height c.in-Some.ensures.block refl

pub returns-in-None : goal.returns-in-None
returns-in-None c = absurd (top_none c.args.index.now c.tip-tip.result None c.tip-tip.ensures.height c.in-None.ensures.block refl)
