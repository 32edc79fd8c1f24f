use Rattle.std.proofs.Common.{List, Option, sym, ap, ◌∙◌, subst}
use Rattle.std.specs.FinMap.{empty}
use Rattle.cf_block.specs.declared.tx.Block.{Block}
use Rattle.cf_chain.specs.Coins.{coins_after}
use Rattle.cf_chain.specs.Good.{headers_of}
use Rattle.cf_headers.specs.Chain.{tip_hash}
use Rattle.cf_walk.specs.Files.{cause_on}
use Rattle.cf_walk.specs.Progress.{RefusesFor, FindsCause}
use Rattle.cf_index.proofs.Judging.{refused_before, refused_coins, stands}
use Rattle.cf_index.proofs.index.Index.judge.Goals as goal
use Rattle.cf_index.proofs.index.Index.judge.Goals.{in-Ok-judge_by_kept, in-Err-judge_by_kept}

pub returns-in-Err-clause-exact : goal.returns-in-Err-clause-exact
returns-in-Err-clause-exact c =
    let tip = c.top_hash-tip.ensures ∙ ap (λ (bs : List Block). tip_hash (headers_of bs)) (sym c.self.view_is) in
    subst (λ (bs : List Block). RefusesFor (cause_on bs c.args.block.now) c.in-Err.e) c.self.view_is
    (refused_before c.self.inside.blocks c.args.block.now _ _ _ c.in-Err.e tip c.self.invariant.1.timed c.len-height.ensures c.in-Err.ensures.exact)

pub returns-clause-exact : goal.returns-clause-exact
returns-clause-exact c =
    let blocks = c.self.inside.blocks in
    let block = c.args.block.now in
    let tip = c.top_hash-tip.ensures ∙ ap (λ (bs : List Block). tip_hash (headers_of bs)) (sym c.self.view_is) in
    elim c.match-judge_by_kept.branch [
      | in-Ok-judge_by_kept w ↦ subst (FindsCause (cause_on c.args.self.now block)) (sym w.result-is)
          (sym (ap (λ (bs : List Block). cause_on bs block) c.self.view_is)
          ∙ stands blocks block _ _ _ _ tip c.self.invariant.1.timed c.len-height.ensures c.in-Ok.ensures.exact
          (ap (coins_after empty) c.as_slice.ensures) w.in-Ok-judge_by_kept.ensures.exact)
      | in-Err-judge_by_kept w ↦ subst (FindsCause (cause_on c.args.self.now block)) (sym w.result-is)
          (subst (λ (bs : List Block). RefusesFor (cause_on bs block) w.in-Err-judge_by_kept.e) c.self.view_is
          (refused_coins blocks block _ _ _ _ w.in-Err-judge_by_kept.e tip c.self.invariant.1.timed c.len-height.ensures c.in-Ok.ensures.exact
          (ap (coins_after empty) c.as_slice.ensures) w.in-Err-judge_by_kept.ensures.exact))
    ]
