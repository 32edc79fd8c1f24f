use Rattle.std.proofs.Common.{Option, refl, ◌∙◌, subst, arith}
use Rattle.std.proofs.lemmas.Result.{err_from_is_err_and}
use Rattle.cf_peer.specs.declared.mode.Mode.TheVariants.{Once}
use Rattle.cf_run.specs.declared.outcome.End.{End}
use Rattle.cf_run.specs.States.{Turned}
use Rattle.cf_run.proofs.Courses.{took_more, took_none, turn_ends, turns_more, turns_over, turns_used}
use Rattle.cf_run.proofs.Turns.{stops}
use Rattle.cf_client.specs.Stands.{greeting_by}
use Rattle.cf_run.proofs.Versions.{keeps_then}
use Rattle.cf_run.proofs.Rights.{stays_err, stays_on, terms_err, terms_on}
use Rattle.cf_run.proofs.over.take_turns.Goals as goal

pub returns-in-Some-clause-stopped : goal.returns-in-Some-clause-stopped
returns-in-Some-clause-stopped g c = λ called holds.
    subst (λ (o : Option End). Turned o c.take_turn.new.client c.take_turn.new.progress called (g.W.Wires.told c.take_turn.new.wires)) c.in-Some.is
    (c.in_ok-end.ensures.turned called (c.loop-turn.invariant.holds called holds))

pub returns-clause-stopped : goal.returns-clause-stopped
returns-clause-stopped g c = λ called holds.
    stops c.last_end.result c.loop-turn.client c.loop-turn.progress called (g.W.Wires.told c.loop-turn.wires) (c.loop-turn.invariant.holds called holds) c.last_end.ensures.end

pub returns-clause-stays : goal.returns-clause-stays
returns-clause-stays g c = λ called holds. record { right = tt; versions = c.loop-turn.invariant.versions called holds }

pub returns-in-Some-clause-stays : goal.returns-in-Some-clause-stays
returns-in-Some-clause-stays g c = λ called holds.
    let turn = c.loop-turn.invariant in
    stays_on turn.greeting (turn.versions called holds) (c.in_ok-end.ensures.stays called (turn.holds called holds))

pub returns-in_err-end-clause-stays : goal.returns-in_err-end-clause-stays
returns-in_err-end-clause-stays g c = (let p = err_from_is_err_and c.from_residual.result c.from_residual.ensures.1 in rw p.1 (λ called holds.
    let turn = c.loop-turn.invariant in
    stays_err turn.rule turn.greeting (turn.versions called holds) (c.in_err-end.ensures.stays called (turn.holds called holds))))

pub returns-clause-terms : goal.returns-clause-terms
returns-clause-terms g c = record { rule = c.loop-turn.invariant.rule; greeting = c.loop-turn.invariant.greeting }

pub returns-in-Some-clause-terms : goal.returns-in-Some-clause-terms
returns-in-Some-clause-terms g c = terms_on c.loop-turn.invariant.rule c.loop-turn.invariant.greeting c.in_ok-end.ensures.terms

pub returns-in_err-end-clause-terms : goal.returns-in_err-end-clause-terms
returns-in_err-end-clause-terms g c = (let p = err_from_is_err_and c.from_residual.result c.from_residual.ensures.1 in rw p.1 (terms_err c.loop-turn.invariant.greeting c.in_err-end.ensures.terms))

pub returns-in-Some-clause-ends : goal.returns-in-Some-clause-ends
returns-in-Some-clause-ends g c = turn_ends Once c.in-Some.end c.args.turns _ (g.W.Wires.told c.loop-turn.wires).tally
    (g.W.Wires.told c.take_turn.new.wires).tally c.in-Some.is c.in_ok-end.ensures.counts c.loop-turn.invariant.took.taken
    (omega arith) c.loop-turn.invariant.took.unended

pub returns-clause-ends : goal.returns-clause-ends
returns-clause-ends g c = turns_used c.last_end.result c.args.turns
    (g.W.Wires.told c.loop-turn.wires).tally c.last_end.ensures.unended (omega (arith, c.loop-turn.invariant.took.taken))

pub returns-in-Some-clause-takes : goal.returns-in-Some-clause-takes
returns-in-Some-clause-takes g c = turns_more c.args.turns _ c.loop-turn.invariant.took (omega arith) c.in_ok-end.ensures.turns

pub returns-in_err-end-clause-takes : goal.returns-in_err-end-clause-takes
returns-in_err-end-clause-takes g c = turns_more c.args.turns _ c.loop-turn.invariant.took (omega arith) c.in_err-end.ensures.turns

pub returns-clause-takes : goal.returns-clause-takes
returns-clause-takes g c = turns_over c.args.turns _ c.loop-turn.invariant.took (omega arith)

pub loop-turn-init : goal.loop-turn-init
loop-turn-init g c = record {
  holds = λ called holds. holds;
  versions = λ called holds has. has;
  rule = refl;
  greeting = refl;
  took = took_none _ c.requires.fresh c.requires.unended c.requires.step;
}

pub loop-turn-preserved : goal.loop-turn-preserved
loop-turn-preserved g c = record {
  holds = λ called holds.
      subst (λ (o : Option End). Turned o c.take_turn.new.client c.take_turn.new.progress called (g.W.Wires.told c.take_turn.new.wires)) c.in_default.is
      (c.in_ok-end.ensures.turned called (c.loop-turn.invariant.holds called holds));
  versions = λ called holds.
      keeps_then (greeting_by c.loop-turn.client) (greeting_by c.args.client.now) (g.W.Wires.told c.args.wires.now) (g.W.Wires.told c.loop-turn.wires) (g.W.Wires.told c.take_turn.new.wires)
      c.loop-turn.invariant.greeting (c.loop-turn.invariant.versions called holds)
      (c.in_ok-end.ensures.stays called (c.loop-turn.invariant.holds called holds)).versions;
  rule = c.in_ok-end.ensures.terms.rule ∙ c.loop-turn.invariant.rule;
  greeting = c.in_ok-end.ensures.terms.greeting ∙ c.loop-turn.invariant.greeting;
  took = took_more c.loop-turn._turn c.loop-turn.invariant.took c.in_ok-end.ensures.turns c.in_default.is c.in_ok-end.ensures.counts;
}
