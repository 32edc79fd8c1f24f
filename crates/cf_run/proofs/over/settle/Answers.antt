use Rattle.std.proofs.Common.{List, ◌∷◌, [], refl, sym, ◌∙◌, ap, subst}
use Rattle.std.proofs.lemmas.Result.{err_from_is_err_and}
use Rattle.cf_peer.specs.declared.act.Act.{Act}
use Rattle.cf_wires.specs.declared.event.Event.TheVariants.{SendFailed}
use Rattle.cf_peer.specs.declared.peer.Cause.TheVariants.{SendFailed as SendFault}
use Rattle.cf_run.specs.declared.progress.Progress.{Progress}
use Rattle.cf_place.specs.Places.{Allowed, after}
use Rattle.cf_run.specs.Run.{IsTicked}
use Rattle.cf_run.specs.States.{Doing}
use Rattle.cf_sync.specs.Fetching.{Rule}
use Rattle.cf_run.proofs.Courses.{noted_performs, performs_self, performs_then}
use Rattle.cf_run.proofs.Ticked.{ticked_then, ticked_told}
use Rattle.cf_client.specs.Stands.{rule_by}
use Rattle.cf_run.proofs.Turns.{doing_rule}
use Rattle.cf_run.proofs.Performs.{cut_for, told_now, all_told, in_count}
use Rattle.cf_client.specs.Stands.{greeting_by}
use Rattle.cf_run.proofs.Versions.{acts_tell_so}
use Rattle.cf_run.proofs.Rights.{doing_right, right_by}
use Rattle.cf_run.proofs.over.settle.Goals as goal

pub loop-p-init : goal.loop-p-init
loop-p-init g c = record {
  waits = λ called planned reflects doing. record { planned = planned; reflects = reflects; ticked = λ ticked. ticked; doing = doing };
  versions = λ called planned reflects doing has. has;
  count = refl;
  rule = refl;
  greeting = refl;
  performs = performs_self _ c.requires.step;
}

pub loop-p-preserved : goal.loop-p-preserved
loop-p-preserved g c = record {
  waits = λ called planned reflects doing.
      let p = c.in-Some.p in
      let w = c.loop-p.invariant.waits called planned reflects doing in
      let next = SendFailed p ∷ w.planned in
      let used = in_count c.loop-p.client [] c.loop-p.progress called w.planned (g.W.Wires.told c.loop-p.wires) p.0 c.in-Some.ensures.some.1 w.reflects w.doing in
      let a = c.in_ok-acts.ensures.answers w.planned next used w.reflects (cut_for p w.planned) in
      let noted = told_now called w.planned (g.W.Wires.told c.loop-p.wires) p SendFault c.note_told.ensures.within
      c.in-Some.ensures.some.1 (c.in_ok-acts.ensures.first used).1 c.deref.ensures.value c.note_told.ensures.told w.doing in
      let same = c.in_ok-acts.ensures.rule in
      let allowed = subst (λ (acts : List Act). Allowed (rule_by c.send_failed.new.self) acts next) (sym c.deref.ensures.value) a.allowed in
      let done = c.in_ok-perform_acts.ensures.doing (rule_by c.send_failed.new.self) called next allowed (doing_rule same noted) in
      record {
        planned = after c.in_ok-acts.acts.items next;
        reflects = a.stand;
        ticked = ticked_then c.in_ok-acts.acts.items p planned w.planned same a.allowed w.ticked;
        doing = subst (λ (acts : List Act). Doing (rule_by c.send_failed.new.self) [] c.perform_acts.new.progress called (after acts next) (g.W.Wires.told c.perform_acts.new.wires)) c.deref.ensures.value done;
      };
  versions = λ called planned reflects doing has.
      let p = c.in-Some.p in
      let w = c.loop-p.invariant.waits called planned reflects doing in
      let used = in_count c.loop-p.client [] c.loop-p.progress called w.planned (g.W.Wires.told c.loop-p.wires) p.0 c.in-Some.ensures.some.1 w.reflects w.doing in
      let tells = c.in_ok-acts.ensures.tells w.planned (SendFailed p ∷ w.planned) used w.reflects (cut_for p w.planned) in
      c.in_ok-perform_acts.ensures.versions (greeting_by c.args.client.now) (acts_tell_so _ _ c.in_ok-acts.acts.items _ c.loop-p.invariant.greeting c.deref.ensures.value tells)
      (c.loop-p.invariant.versions called planned reflects doing has);
  count = c.in_ok-acts.ensures.count ∙ c.loop-p.invariant.count;
  rule = c.in_ok-acts.ensures.rule ∙ c.loop-p.invariant.rule;
  greeting = c.in_ok-acts.ensures.greeting ∙ c.loop-p.invariant.greeting;
  performs = performs_then c.loop-p.invariant.performs
      (performs_then (noted_performs _ _ _ _ c.loop-p.progress _ (ap (λ (x : Progress). x.closed) c.note_told.ensures.told) (ap (λ (x : Progress). x.trace) c.note_told.ensures.told)
      c.note_told.ensures.fewer c.loop-p.invariant.performs.runs.step) c.in_ok-perform_acts.ensures.performs);
}

pub returns-clause-holds : goal.returns-clause-holds
returns-clause-holds g c = λ called planned reflects doing ticked.
    let w = c.loop-p.invariant.waits called planned reflects doing in
    let now = w.ticked (subst (λ (r : Rule). IsTicked r.mode planned) (sym c.loop-p.invariant.rule) ticked) in
    all_told c.loop-p.client c.loop-p.progress called w.planned (g.W.Wires.told c.loop-p.wires) c.in_default.ensures.none w.reflects w.doing
    (ticked_told c.loop-p.progress called w.planned (g.W.Wires.told c.loop-p.wires) w.doing now)

pub returns-clause-stays : goal.returns-clause-stays
returns-clause-stays g c = λ called planned reflects doing.
    record { right = tt; versions = c.loop-p.invariant.versions called planned reflects doing }

pub returns-in_err-acts-clause-stays : goal.returns-in_err-acts-clause-stays
returns-in_err-acts-clause-stays g c = (let p = err_from_is_err_and c.from_residual.result c.from_residual.ensures.1 in rw p.1 (λ called planned reflects doing. record {
  right = right_by (g.W.Wires.told c.loop-p.wires) c.loop-p.invariant.rule (doing_right (c.loop-p.invariant.waits called planned reflects doing).doing);
  versions = c.loop-p.invariant.versions called planned reflects doing;
}))

pub returns-in_err-perform_acts-clause-stays : goal.returns-in_err-perform_acts-clause-stays
returns-in_err-perform_acts-clause-stays g c = (let p = err_from_is_err_and c.from_residual-in_err-perform_acts.result c.from_residual-in_err-perform_acts.ensures.1 in rw p.1 (λ called planned reflects doing.
    let p = c.in-Some.p in
    let w = c.loop-p.invariant.waits called planned reflects doing in
    let next = SendFailed p ∷ w.planned in
    let used = in_count c.loop-p.client [] c.loop-p.progress called w.planned (g.W.Wires.told c.loop-p.wires) p.0 c.in-Some.ensures.some.1 w.reflects w.doing in
    let a = c.in_ok-acts.ensures.answers w.planned next used w.reflects (cut_for p w.planned) in
    let noted = told_now called w.planned (g.W.Wires.told c.loop-p.wires) p SendFault c.note_told.ensures.within
    c.in-Some.ensures.some.1 (c.in_ok-acts.ensures.first used).1 c.deref.ensures.value c.note_told.ensures.told w.doing in
    let same = c.in_ok-acts.ensures.rule in
    let allowed = subst (λ (acts : List Act). Allowed (rule_by c.send_failed.new.self) acts next) (sym c.deref.ensures.value) a.allowed in
    let tells = c.in_ok-acts.ensures.tells w.planned next used w.reflects (cut_for p w.planned) in
    record {
      right = right_by (g.W.Wires.told c.perform_acts.new.wires) (same ∙ c.loop-p.invariant.rule)
          (c.in_err-perform_acts.ensures.right (rule_by c.send_failed.new.self) called next allowed (doing_rule same noted));
      versions = λ has. c.in_err-perform_acts.ensures.versions (greeting_by c.args.client.now)
          (acts_tell_so _ _ c.in_ok-acts.acts.items _ c.loop-p.invariant.greeting c.deref.ensures.value tells)
          (c.loop-p.invariant.versions called planned reflects doing has);
    }))

pub returns-clause-terms : goal.returns-clause-terms
returns-clause-terms g c = record { rule = c.loop-p.invariant.rule; greeting = c.loop-p.invariant.greeting }

pub returns-in_err-acts-clause-terms : goal.returns-in_err-acts-clause-terms
returns-in_err-acts-clause-terms g c = (let p = err_from_is_err_and c.from_residual.result c.from_residual.ensures.1 in rw p.1 (record { rule = tt; greeting = c.in_err-acts.ensures.greeting ∙ c.loop-p.invariant.greeting }))

pub returns-in_err-perform_acts-clause-terms : goal.returns-in_err-perform_acts-clause-terms
returns-in_err-perform_acts-clause-terms g c = (let p = err_from_is_err_and c.from_residual-in_err-perform_acts.result c.from_residual-in_err-perform_acts.ensures.1 in rw p.1 (record { rule = tt; greeting = c.in_ok-acts.ensures.greeting ∙ c.loop-p.invariant.greeting }))
