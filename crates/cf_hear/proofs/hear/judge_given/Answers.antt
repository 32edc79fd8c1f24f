use Rattle.std.proofs.Common.{ℕ, List, Ok, subst}
use Rattle.cf_hear.proofs.hear.judge_given.Goals as goal

pub returns-clause-judged : goal.returns-clause-judged
returns-clause-judged g c =
    let judges = g.M.Matcher.judges in
    let answer = c.in_ok-verdicts.verdicts in
    record {
      jobs = c.args.jobs.now;
      answer = answer;
      judged = subst (λ (w : List (List ℕ)). judges c.args.matcher.now c.args.jobs.now w (Ok answer) c.run.new.self) c.watch.ensures c.in_ok-verdicts.ensures.exact;
      kept = c.in_ok-judge.ensures.ok;
    }
