use Rattle.std.proofs.Common.{None}
use Rattle.cf_walk.proofs.WalkSource.{zeros_bad, zeros_end}
use Rattle.cf_walk.proofs.walk.walk_zeros.Goals as goal

pub returns-in-Ok-true-clause-exact : goal.returns-in-Ok-true-clause-exact
returns-in-Ok-true-clause-exact g c = λ j bytes others is behind.
    let e = c.in-Ok-true.ensures in
    let over = e.yes c.in-Ok-true.field-0-test in
    zeros_end j c.args.window.now c.only_zeros.new.window (g.S.Source.left c.args.source.now) (g.S.Source.left c.only_zeros.new.source) _ _ bytes others c.ends.result
    e.strips over.0 over.1 e.beyond c.ends.ensures.exact is behind

pub returns-in-Ok-false-clause-exact : goal.returns-in-Ok-false-clause-exact
returns-in-Ok-false-clause-exact g c = λ j bytes others is behind.
    let e = c.in-Ok-false.ensures in
    zeros_bad j c.args.window.now c.only_zeros.new.window (g.S.Source.left c.args.source.now) (g.S.Source.left c.only_zeros.new.source) None None bytes others c.requires
    e.strips (e.no c.in-Ok-false.field-0-test) is
