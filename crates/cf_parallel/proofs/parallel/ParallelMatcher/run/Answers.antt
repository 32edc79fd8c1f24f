use Rattle.std.proofs.Common.{arith, ◌<◌, ◌∙◌, ap, map}
use Rattle.cf_match.specs.Verdicts.{verdict_of}
use Rattle.cf_parallel.specs.Parts.{joined}
use Rattle.cf_parallel.proofs.Cutting.{judged_parts}
use Rattle.cf_parallel.proofs.parallel.ParallelMatcher.run.Goals as goal

pub returns-clause-verdicts : goal.returns-clause-verdicts
returns-clause-verdicts g c =
    let e = c.judge_in_parts.ensures in
    let some : 0 < c.args.self.now.parts = omega (arith, c.self.invariant.0, ap (λ s. s.parts) c.self.view_is, ap (λ s. s.parts) e.same) in
    let whole = ap (λ l. joined (map (λ v. v.items) l)) c.as_slice.ensures.value ∙ ap joined c.in_ok-parts.ensures.parts ∙ judged_parts (verdict_of c.args.watch.now) c.args.self.now.parts c.args.jobs.now some in
    rw whole at c.put_together.ensures
