use Rattle.std.proofs.Common.{ℕ, ◌+◌, List, take, sym, ◌∙◌, ap, subst, arith}
use Rattle.std.proofs.lemmas.Result.{err_from_is_err_and}
use Rattle.cf_run.specs.Names.{names_in}
use Rattle.cf_run.specs.States.{HoldsOver}
use Rattle.cf_run.proofs.Courses.{runs_then}
use Rattle.cf_run.proofs.Dialling.{names_more_as, one_dialled, most_dialled}
use Rattle.cf_client.specs.Stands.{greeting_by}
use Rattle.cf_run.proofs.Versions.{keeps_then}
use Rattle.cf_run.proofs.Rights.{stays_err, terms_err}
use Rattle.cf_run.proofs.over.dial_all.Goals as goal

pub returns-in_err-dial_one-clause-first : goal.returns-in_err-dial_one-clause-first
returns-in_err-dial_one-clause-first g c = λ none.
    most_dialled c.args.names.now c.loop-name.name-index c.name-item.result c.as_str.result.now _ _ (omega arith) c.name-item.is c.as_str.ensures.value c.loop-name.invariant.dials
    (c.loop-name.invariant.named none) c.in_err-dial_one.ensures.dials

pub loop-name-preserved : goal.loop-name-preserved
loop-name-preserved g c = record {
  holds = λ start.
      subst (λ (called : List (List ℕ)). HoldsOver c.dial_one.new.client c.dial_one.new.progress called (g.W.Wires.told c.dial_one.new.wires))
      (names_more_as c.args.names.now c.loop-name.name-index c.name-item.result c.as_str.result.now (omega arith) c.name-item.is c.as_str.ensures.value)
      (c.in_ok-dial_one.ensures.holds (names_in (take c.loop-name.name-index c.args.names.now)) (c.loop-name.invariant.holds start));
  versions = λ start.
      keeps_then (greeting_by c.loop-name.client) (greeting_by c.args.client.now) (g.W.Wires.told c.args.wires.now) (g.W.Wires.told c.loop-name.wires) (g.W.Wires.told c.dial_one.new.wires) c.loop-name.invariant.greeting (c.loop-name.invariant.versions start)
      (c.in_ok-dial_one.ensures.stays (names_in (take c.loop-name.name-index c.args.names.now)) (c.loop-name.invariant.holds start)).versions;
  named = λ none.
      one_dialled c.args.names.now c.loop-name.name-index c.name-item.result c.as_str.result.now _ _ (omega arith) c.name-item.is c.as_str.ensures.value
      (c.loop-name.invariant.named none) c.in_ok-dial_one.ensures.one;
  dials = c.in_ok-dial_one.ensures.one.dials ∙ ap (λ (n : ℕ). n + 1) c.loop-name.invariant.dials;
  puts = λ watch texts put. c.in_ok-dial_one.ensures.dials.puts watch texts (c.loop-name.invariant.puts watch texts put);
  taken = c.in_ok-dial_one.ensures.dials.taken ∙ c.loop-name.invariant.taken;
  unended = c.in_ok-dial_one.ensures.dials.ended ∙ c.loop-name.invariant.unended;
  rule = c.in_ok-dial_one.ensures.terms.rule ∙ c.loop-name.invariant.rule;
  greeting = c.in_ok-dial_one.ensures.terms.greeting ∙ c.loop-name.invariant.greeting;
  next = c.in_ok-dial_one.ensures.count ∙ ap (λ (n : ℕ). n + 1) (c.loop-name.invariant.next ∙ sym c.in_ok-dial_one.ensures.one.dials);
  runs = runs_then c.loop-name.invariant.runs c.in_ok-dial_one.ensures.dials.runs;
}

pub returns-clause-stays : goal.returns-clause-stays
returns-clause-stays g c = λ start. record { right = tt; versions = c.loop-name.invariant.versions start }

pub returns-in_err-dial_one-clause-stays : goal.returns-in_err-dial_one-clause-stays
returns-in_err-dial_one-clause-stays g c = (let p = err_from_is_err_and c.from_residual.result c.from_residual.ensures.1 in rw p.1 (λ start.
    let dials = c.loop-name.invariant in
    stays_err dials.rule dials.greeting (dials.versions start)
    (c.in_err-dial_one.ensures.stays (names_in (take c.loop-name.name-index c.args.names.now)) (dials.holds start))))

pub returns-clause-terms : goal.returns-clause-terms
returns-clause-terms g c = record { rule = c.loop-name.invariant.rule; greeting = c.loop-name.invariant.greeting }

pub returns-in_err-dial_one-clause-terms : goal.returns-in_err-dial_one-clause-terms
returns-in_err-dial_one-clause-terms g c = (let p = err_from_is_err_and c.from_residual.result c.from_residual.ensures.1 in rw p.1 (terms_err c.loop-name.invariant.greeting c.in_err-dial_one.ensures.terms))

pub returns-in_err-dial_one-clause-puts : goal.returns-in_err-dial_one-clause-puts
returns-in_err-dial_one-clause-puts g c = λ watch texts put. c.in_err-dial_one.ensures.dials.puts watch texts (c.loop-name.invariant.puts watch texts put)
