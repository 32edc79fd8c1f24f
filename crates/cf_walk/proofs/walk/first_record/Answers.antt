use Rattle.std.proofs.Common.{◌≡◌, ◌-◌, length, Some, ◌∙◌, ap}
use Rattle.cf_walk.proofs.WalkSource.{drop_end}
use Rattle.cf_walk.proofs.walk.first_record.Goals as goal

pub returns-in-Ok-Some-clause-exact : goal.returns-in-Ok-Some-clause-exact
returns-in-Ok-Some-clause-exact c =
    let bytes = c.args.bytes.now in
    let rest = c.in-Ok-Some.rest.now in
    let n = c.saturating_sub.result in
    let first = rw c.in-Ok-Some.field-0-is at c.in-Ok-Some.ensures in
    let is : n ≡ length bytes - length rest = c.saturating_sub.ensures in
    ap Some (drop_end bytes first.found.front rest n first.found.spelled is) ∙ first.exact
