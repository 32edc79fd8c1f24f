use Rattle.std.proofs.Common.{length, arith, ◌∙◌, ap}
use Rattle.cf_index.proofs.Adding.{share_next, share_end}
use Rattle.cf_index.proofs.shared.shared_blocks.Goals as goal

pub loop-block-preserved : goal.loop-block-preserved
loop-block-preserved c =
    let i = c.loop-block.invariant in
    let st = c.in-Some.ensures.steps in
    let s = ap length st.0 in
    record {
      count = omega (arith, i.count, st.1, s);
      all = share_next c.args.blocks c.loop-block.shared c.push.new.self _ _ _ _ i.all st.0 c.in_ok-push.ensures.ok c.in_ok-held.ensures;
    }

pub returns : goal.returns
returns c =
    let i = c.loop-block.invariant in
    share_end c.args.blocks c.loop-block.shared _ i.all (i.count ∙ c.in-None.ensures.steps.0)
