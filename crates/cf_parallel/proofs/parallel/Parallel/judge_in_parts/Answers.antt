use Rattle.std.proofs.Common.{rules, arith, ◌≡◌, true, ◌∙◌, ap}
use Rattle.std.specs.Result.{is_ok}
use Rattle.cf_match.specs.Verdicts.{verdict_of}
use Rattle.cf_parallel.proofs.Cutting.{one_part_more}
use Rattle.cf_parallel.proofs.parallel.Parallel.judge_in_parts.Goals as goal

pub loop-k-preserved : goal.loop-k-preserved
loop-k-preserved g c =
    let i = c.loop-k.invariant in
    let done : is_ok c.push.result ≡ true = search rules in
    let all = rw done at c.push.ensures.items in
    let found = rw i.same at c.in_ok-collect.ensures.verdicts in
    record {
      so_far = one_part_more (λ v. v.items) (verdict_of c.args.watch.now) c.hand_over.new.self.parts c.loop-k.k c.args.jobs.now _ _ _ i.so_far all found;
      same = c.collect.ensures.same ∙ i.same;
      within = omega (arith, c.loop-k-test.true, ap (λ s. s.parts) c.self-2.view_is);
    }
