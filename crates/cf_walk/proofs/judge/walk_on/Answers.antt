use Rattle.std.proofs.Common.{◌≡◌, false, sym, ◌∙◌, ap, arith}
use Rattle.cf_walk.specs.Files.{all_zeros}
use Rattle.cf_headers.specs.Rules.{past_after}
use Rattle.cf_walk.proofs.WalkSteps.{stands_so, walks_refused}
use Rattle.cf_walk.proofs.judge.walk_on.Goals as goal

pub returns-in-Err-judge_on-clause-exact : goal.returns-in-Err-judge_on-clause-exact
returns-in-Err-judge_on-clause-exact c =
    let some : all_zeros c.args.cut.now ≡ false = sym (ap all_zeros c.rest.ensures) ∙ sym c.is_end.ensures ∙ c.if-is_end.false in
    walks_refused c.args.judge.now c.args.cut.now c.take_record.new.cut c.in-Ok.text.now c.take_record.new.cut c.in-Ok-block_of.block c.in-Err-judge_on.e some
    c.in-Ok.ensures.exact c.in-Ok-block_of.ensures.exact c.in-Err-judge_on.ensures.exact

pub returns-clause-stands : goal.returns-clause-stands
returns-clause-stands c =
    let old = c.args.judge.now in
    let b = c.in-Ok-block_of.block in
    let e = c.in-Ok-judge_on.ensures in
    stands_so old _ b e.exact c.in-Ok-block_of.ensures.fits c.block_hash-hash.ensures (c.push.ensures ∙ ap (past_after b.header.time) e.past) (omega (arith, e.height)) e.coins
