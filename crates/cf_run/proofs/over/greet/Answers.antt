use Rattle.std.proofs.Common.{List, ◌∷◌, sym, ◌∙◌, subst, []}
use Rattle.std.proofs.lemmas.Result.{err_from_is_err_and}
use Rattle.cf_peer.specs.declared.act.Act.{Act}
use Rattle.cf_wires.specs.declared.event.Event.TheVariants.{Dialled}
use Rattle.cf_client.specs.Stands.{Answers, greeting_by}
use Rattle.cf_run.proofs.Courses.{performs_self}
use Rattle.cf_run.proofs.Passing.{acts_keep}
use Rattle.cf_run.proofs.Ticked.{ticked_greeted}
use Rattle.cf_run.proofs.Turns.{doing_rule}
use Rattle.cf_run.proofs.Versions.{greeting_tells}
use Rattle.cf_run.proofs.Rights.{doing_right, right_by, terms_err, terms_on}
use Rattle.cf_run.proofs.over.greet.Goals as goal

pub returns-clause-holds : goal.returns-clause-holds
returns-clause-holds g c = λ called log reflects doing ticked.
    let now = Dialled c.args.p c.args.name.now ∷ log in
    let answers = subst (λ (acts : List Act). Answers c.dialled.new.self acts now) (sym c.deref.ensures.value) (c.in_ok-acts.ensures.answers log reflects) in
    c.in_ok-carry_out.ensures.holds called now answers
    (doing_rule c.in_ok-acts.ensures.rule (doing c.deref.result.now))
    (ticked_greeted c.deref.result.now c.args.p c.args.name.now log c.in_ok-acts.ensures.rule answers.allowed ticked)

pub returns-clause-stays : goal.returns-clause-stays
returns-clause-stays g c = λ called log reflects doing.
    let acts = c.in_ok-acts.ensures in
    record {
      right = tt;
      versions = acts_keep c.args.client.now c.dialled.new.self (g.W.Wires.told c.carry_out.new.wires) acts.rule acts.greeting c.deref.ensures.value (acts.answers log reflects)
          (greeting_tells (greeting_by c.args.client.now) c.args.p c.in_ok-acts.acts.items acts.greets) (doing c.deref.result.now) c.in_ok-carry_out.ensures.versions;
    }

pub returns-in_err-acts-clause-stays : goal.returns-in_err-acts-clause-stays
returns-in_err-acts-clause-stays g c = (let p = err_from_is_err_and c.from_residual.result c.from_residual.ensures.1 in rw p.1 (λ called log reflects doing. record { right = doing_right (doing []); versions = λ has. has }))

pub returns-in_err-carry_out-clause-stays : goal.returns-in_err-carry_out-clause-stays
returns-in_err-carry_out-clause-stays g c = (let p = err_from_is_err_and c.from_residual-in_err-carry_out.result c.from_residual-in_err-carry_out.ensures.1 in rw p.1 (λ called log reflects doing.
    let acts = c.in_ok-acts.ensures in
    let now = Dialled c.args.p c.args.name.now ∷ log in
    let answers = subst (λ (acts : List Act). Answers c.dialled.new.self acts now) (sym c.deref.ensures.value) (acts.answers log reflects) in
    record {
      right = right_by (g.W.Wires.told c.carry_out.new.wires) acts.rule
          (c.in_err-carry_out.ensures.right called now answers (doing_rule acts.rule (doing c.deref.result.now)));
      versions = acts_keep c.args.client.now c.dialled.new.self (g.W.Wires.told c.carry_out.new.wires) acts.rule acts.greeting c.deref.ensures.value (acts.answers log reflects)
          (greeting_tells (greeting_by c.args.client.now) c.args.p c.in_ok-acts.acts.items acts.greets) (doing c.deref.result.now) c.in_err-carry_out.ensures.versions;
    }))

pub returns-clause-count : goal.returns-clause-count
returns-clause-count g c = c.in_ok-carry_out.ensures.count ∙ c.in_ok-acts.ensures.count

pub returns-clause-terms : goal.returns-clause-terms
returns-clause-terms g c = terms_on c.in_ok-acts.ensures.rule c.in_ok-acts.ensures.greeting c.in_ok-carry_out.ensures.terms

pub returns-in_err-acts-clause-terms : goal.returns-in_err-acts-clause-terms
returns-in_err-acts-clause-terms g c = (let p = err_from_is_err_and c.from_residual.result c.from_residual.ensures.1 in rw p.1 (record { rule = tt; greeting = c.in_err-acts.ensures.greeting }))

pub returns-in_err-carry_out-clause-terms : goal.returns-in_err-carry_out-clause-terms
returns-in_err-carry_out-clause-terms g c = (let p = err_from_is_err_and c.from_residual-in_err-carry_out.result c.from_residual-in_err-carry_out.ensures.1 in rw p.1 (terms_err c.in_ok-acts.ensures.greeting c.in_err-carry_out.ensures.terms))

pub returns-clause-performs : goal.returns-clause-performs
returns-clause-performs g c = c.in_ok-carry_out.ensures.performs

pub returns-in_err-carry_out-clause-performs : goal.returns-in_err-carry_out-clause-performs
returns-in_err-carry_out-clause-performs g c = c.in_err-carry_out.ensures.performs

pub returns-in_err-acts-clause-performs : goal.returns-in_err-acts-clause-performs
returns-in_err-acts-clause-performs g c = performs_self _ c.requires.step
