use Rattle.std.proofs.Common.{◌≡◌, List, ◌∷◌, sym, ◌∙◌, ap, subst, refl, []}
use Rattle.std.proofs.lemmas.Result.{err_from_is_err_and}
use Rattle.cf_peer.specs.declared.act.Act.{Act}
use Rattle.cf_wires.specs.declared.event.Delivery.{Delivery}
use Rattle.cf_wires.specs.declared.event.Event.TheVariants.{Took}
use Rattle.cf_wires.specs.Log.{tell, Told}
use Rattle.cf_client.specs.Stands.{Answers, rule_by, greeting_by}
use Rattle.cf_run.proofs.Passing.{take_keeps}
use Rattle.cf_run.proofs.Versions.{entry_keeps, same_keeps}
use Rattle.cf_run.proofs.Ticked.{ticked_taken}
use Rattle.cf_run.proofs.Turns.{took_doing, doing_rule, took_counts, took_closed}
use Rattle.cf_run.proofs.Courses.{told_runs, turns_then, puts_taken}
use Rattle.cf_run.proofs.Rights.{doing_right, holds_right, right_at, right_by, terms_err, terms_on}
use Rattle.cf_run.proofs.over.take_next.Goals as goal

pub returns-clause-holds : goal.returns-clause-holds
returns-clause-holds g c = λ is called holds may.
    let d = c.in_ok-d.d in
    let log = Took d ∷ holds.actual in
    let doing = took_doing c.args.client.now c.deref.result.now c.args.progress.now called (g.W.Wires.told c.args.wires.now) d c.note_bytes.ensures holds may in
    let a = c.in_ok-acts.ensures.answers holds.actual holds.reflects in
    c.in_ok-carry_out.ensures.holds called log
    (subst (λ (acts : List Act). Answers c.step.new.self acts log) (sym c.deref.ensures.value) a)
    (doing_rule c.in_ok-acts.ensures.rule (rw c.in_ok-d.ensures.took doing))
    (ticked_taken d c.in_ok-acts.acts.items c.deref.result.now holds.actual c.in_ok-acts.ensures.rule c.deref.ensures.value (c.in_ok-acts.ensures.pings holds.actual holds.reflects))

pub returns-in-Ended-clause-over : goal.returns-in-Ended-clause-over
returns-in-Ended-clause-over g c = λ is.
    (refl, refl, subst (λ (d : Delivery). g.W.Wires.told c.next.new.self ≡ tell (Took d) (g.W.Wires.told c.args.wires.now)) c.in-Ended.is c.in_ok-d.ensures.took)

pub returns-clause-puts : goal.returns-clause-puts
returns-clause-puts g c = λ watch texts put.
    c.in_ok-carry_out.ensures.performs.counts.puts watch texts (puts_taken c.in_ok-d.d _ _ c.in_ok-d.ensures.took watch texts put)

pub returns-in-Ended-clause-puts : goal.returns-in-Ended-clause-puts
returns-in-Ended-clause-puts g c = λ watch texts put. puts_taken c.in_ok-d.d _ _ c.in_ok-d.ensures.took watch texts put

pub returns-clause-taken : goal.returns-clause-taken
returns-clause-taken g c = λ is.
    c.in_ok-carry_out.ensures.performs.counts.taken ∙ ap (λ (t : Told). t.tally.taken) c.in_ok-d.ensures.took ∙ took_counts c.in_ok-d.d (g.W.Wires.told c.args.wires.now) c.in_default.not-Ended

pub returns-clause-turns : goal.returns-clause-turns
returns-clause-turns g c =
    turns_then c.in_ok-d.d _
    (told_runs (Took c.in_ok-d.d) _ _ refl c.in_ok-d.ensures.took c.in_ok-d.ensures.later c.in_ok-d.ensures.same c.in_ok-d.ensures.keeps (took_closed c.in_ok-d.d (g.W.Wires.told c.args.wires.now)) refl c.requires.step)
    c.in_ok-d.ensures.took
    c.in_ok-carry_out.ensures.performs

pub returns-in_err-carry_out-clause-turns : goal.returns-in_err-carry_out-clause-turns
returns-in_err-carry_out-clause-turns g c =
    turns_then c.in_ok-d.d _
    (told_runs (Took c.in_ok-d.d) _ _ refl c.in_ok-d.ensures.took c.in_ok-d.ensures.later c.in_ok-d.ensures.same c.in_ok-d.ensures.keeps (took_closed c.in_ok-d.d (g.W.Wires.told c.args.wires.now)) refl c.requires.step)
    c.in_ok-d.ensures.took
    c.in_err-carry_out.ensures.performs

pub returns-in-Ended-clause-stays : goal.returns-in-Ended-clause-stays
returns-in-Ended-clause-stays g c = λ called holds may. record { right = tt; versions = entry_keeps (greeting_by c.args.client.now) (Took c.in_ok-d.d) _ _ c.in_ok-d.ensures.took tt }

pub returns-clause-stays : goal.returns-clause-stays
returns-clause-stays g c = λ called holds may.
    let acts = c.in_ok-acts.ensures in
    record {
      right = tt;
      versions = take_keeps c.args.client.now c.step.new.self (g.W.Wires.told c.carry_out.new.wires) c.in_ok-d.d holds may c.note_bytes.ensures c.in_ok-d.ensures.took acts.rule acts.greeting c.deref.ensures.value
          (acts.answers holds.actual holds.reflects) (acts.tells holds.actual holds.reflects) c.in_ok-carry_out.ensures.versions;
    }

pub returns-in_err-d-clause-stays : goal.returns-in_err-d-clause-stays
returns-in_err-d-clause-stays g c = (let p = err_from_is_err_and c.from_residual.result c.from_residual.ensures.1 in rw p.1 (λ called holds may. record {
  right = right_at (rule_by c.args.client.now).mode c.in_err-d.ensures.err (holds_right c.args.client.now holds);
  versions = same_keeps (greeting_by c.args.client.now) _ _ c.in_err-d.ensures.err;
}))

pub returns-in_err-acts-clause-stays : goal.returns-in_err-acts-clause-stays
returns-in_err-acts-clause-stays g c = (let p = err_from_is_err_and c.from_residual-in_err-acts.result c.from_residual-in_err-acts.ensures.1 in rw p.1 (λ called holds may. record {
  right = right_at (rule_by c.args.client.now).mode c.in_ok-d.ensures.took
      (doing_right (took_doing c.args.client.now [] c.args.progress.now called (g.W.Wires.told c.args.wires.now) c.in_ok-d.d c.note_bytes.ensures holds may));
  versions = entry_keeps (greeting_by c.args.client.now) (Took c.in_ok-d.d) _ _ c.in_ok-d.ensures.took tt;
}))

pub returns-in_err-carry_out-clause-stays : goal.returns-in_err-carry_out-clause-stays
returns-in_err-carry_out-clause-stays g c = (let p = err_from_is_err_and c.from_residual-in_err-carry_out.result c.from_residual-in_err-carry_out.ensures.1 in rw p.1 (λ called holds may.
    let d = c.in_ok-d.d in
    let acts = c.in_ok-acts.ensures in
    let log = Took d ∷ holds.actual in
    let doing = took_doing c.args.client.now c.deref.result.now c.args.progress.now called (g.W.Wires.told c.args.wires.now) d c.note_bytes.ensures holds may in
    record {
      right = right_by (g.W.Wires.told c.carry_out.new.wires) acts.rule
          (c.in_err-carry_out.ensures.right called log
          (subst (λ (acts : List Act). Answers c.step.new.self acts log) (sym c.deref.ensures.value) (acts.answers holds.actual holds.reflects))
          (doing_rule acts.rule (rw c.in_ok-d.ensures.took doing)));
      versions = take_keeps c.args.client.now c.step.new.self (g.W.Wires.told c.carry_out.new.wires) c.in_ok-d.d holds may c.note_bytes.ensures c.in_ok-d.ensures.took acts.rule acts.greeting c.deref.ensures.value
          (acts.answers holds.actual holds.reflects) (acts.tells holds.actual holds.reflects) c.in_err-carry_out.ensures.versions;
    }))

pub returns-in-Ended-clause-terms : goal.returns-in-Ended-clause-terms
returns-in-Ended-clause-terms g c = record { rule = refl; greeting = refl }

pub returns-clause-terms : goal.returns-clause-terms
returns-clause-terms g c = terms_on c.in_ok-acts.ensures.rule c.in_ok-acts.ensures.greeting c.in_ok-carry_out.ensures.terms

pub returns-in_err-d-clause-terms : goal.returns-in_err-d-clause-terms
returns-in_err-d-clause-terms g c = (let p = err_from_is_err_and c.from_residual.result c.from_residual.ensures.1 in rw p.1 (record { rule = tt; greeting = refl }))

pub returns-in_err-acts-clause-terms : goal.returns-in_err-acts-clause-terms
returns-in_err-acts-clause-terms g c = (let p = err_from_is_err_and c.from_residual-in_err-acts.result c.from_residual-in_err-acts.ensures.1 in rw p.1 (record { rule = tt; greeting = c.in_err-acts.ensures.greeting }))

pub returns-in_err-carry_out-clause-terms : goal.returns-in_err-carry_out-clause-terms
returns-in_err-carry_out-clause-terms g c = (let p = err_from_is_err_and c.from_residual-in_err-carry_out.result c.from_residual-in_err-carry_out.ensures.1 in rw p.1 (terms_err c.in_ok-acts.ensures.greeting c.in_err-carry_out.ensures.terms))
