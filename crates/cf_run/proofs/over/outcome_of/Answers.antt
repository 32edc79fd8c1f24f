use Rattle.std.proofs.Common.{◌∙◌, ap, Vec}
use Rattle.std.specs.Global.{Global}
use Rattle.cf_run.specs.declared.trace.TraceLine.{TraceLine}
use Rattle.cf_client.specs.Stands.{rule_by}
use Rattle.cf_run.specs.Whole.{IsOutcome}
use Rattle.cf_run.proofs.Turns.{finishes, report_same, told_so}
use Rattle.cf_run.proofs.over.outcome_of.Goals as goal

pub returns-clause-outcome : goal.returns-clause-outcome
returns-clause-outcome g c = λ called t stopped.
    let holds = stopped.holds in
    let r = c.in_ok-report.report in
    let report = report_same c.args.client.now c.ends.new.self r.height r.tip r.history c.in_ok-ends.ensures.same
    c.in_ok-report.ensures.report in
    told_so t.log holds.actual (IsOutcome g.H.HeaderStore.counts
    (rule_by c.args.client.now) c.args.progress.trace.wanted called _) holds.notes.tells.content
    (record {
      lines = holds.notes.traced.0;
      kept = ap (λ (v : Vec TraceLine Global). v.items) c.into_lines.ensures ∙ holds.notes.traced.1.1;
      followed = finishes c.args.end c.args.client.now c.args.progress called t r.height r.tip r.history stopped
          (report holds.actual holds.reflects);
      ends = c.in_ok-ends.ensures.tell holds.actual holds.reflects;
      held = c.held-held.ensures.few holds.actual holds.reflects;
    })
