use Rattle.std.proofs.Common.{◌≤◌, arith}
use Rattle.std.proofs.lemmas.Grind.{common_steps}
use Rattle.cf_headers.proofs.EntryLists.{known_most, common_end}
use Rattle.cf_lists.proofs.kept.count_common.Goals as goal

pub returns-clause-value : goal.returns-clause-value
returns-clause-value c =
    let mine = c.args.mine.now in
    let theirs = c.args.theirs.now in
    let low : c.args.known ≤ c.min-most.result = grind (arith, common_steps, known_most mine theirs c.args.known c.requires, c.min-most.ensures) in
    let up = c.loop-i.auto.i-end low in
    let done = common_end mine theirs c.loop-i.i (grind (arith, common_steps, c.min-most.ensures, c.loop-i-test.false)) in
    omega (arith, c.loop-i.invariant, done, up, c.loop-i-test.false)
