use Rattle.std.proofs.Common.{inr, ℕ, ◌+◌, Option, refl, ◌∙◌, ap, subst, arith}
use Rattle.std.proofs.lemmas.Result.{err_from_is_err_and}
use Rattle.cf_sync.specs.Fetching.{Rule}
use Rattle.cf_client.specs.Stands.{greeting_by}
use Rattle.cf_run.specs.declared.outcome.End.{End}
use Rattle.cf_peer.specs.declared.mode.Mode.TheVariants.{Following}
use Rattle.cf_run.specs.States.{IsEndTold, Turned}
use Rattle.cf_run.proofs.Courses.{took_more, took_none, turn_ends, turns_more, turns_over, turns_used}
use Rattle.cf_run.proofs.Turns.{holds_same, rule_same, stops}
use Rattle.cf_run.proofs.Versions.{keeps_then}
use Rattle.cf_run.proofs.Puts.{all_by, none_have, some_by, texts_err, texts_ok}
use Rattle.cf_run.proofs.Rights.{holds_right, right_by, stays_err, stays_on}
use Rattle.cf_run.proofs.follow.follow_turns.Goals as goal

pub loop-turn-init : goal.loop-turn-init
loop-turn-init g c = record {
  follows = c.requires.follows;
  holds = λ called holds. holds;
  puts = λ watch called same holds were. none_have watch (g.W.Wires.told c.args.wires.now) (g.T.Texts.told c.args.texts.now) were;
  versions = λ called holds has. has;
  rule = refl;
  greeting = refl;
  took = took_none _ c.requires.fresh c.requires.unended c.requires.step;
  fine = refl;
  same_reference = refl;
}

pub loop-turn-preserved : goal.loop-turn-preserved
loop-turn-preserved g c = record {
  follows = ap (λ (r : Rule). r.mode) c.in_ok-end.ensures.rule ∙ c.loop-turn.invariant.follows;
  holds = λ called holds.
      subst (λ (o : Option End). Turned o c.follow_turn.new.client c.follow_turn.new.progress called (g.W.Wires.told c.follow_turn.new.wires)) c.in_default.is
      (c.in_ok-end.ensures.turned called (c.loop-turn.invariant.holds called holds));
  puts = λ watch called same holds were.
      c.in_ok-end.ensures.puts c.in_default.is watch called (g.T.Texts.told c.args.texts.now) (ap (λ (r : Rule). r.watch) c.loop-turn.invariant.rule ∙ same)
      (c.loop-turn.invariant.holds called holds) (c.loop-turn.invariant.puts watch called same holds were);
  versions = λ called holds.
      keeps_then (greeting_by c.loop-turn.client) (greeting_by c.args.client.now) (g.W.Wires.told c.args.wires.now) (g.W.Wires.told c.loop-turn.wires) (g.W.Wires.told c.follow_turn.new.wires)
      c.loop-turn.invariant.greeting (c.loop-turn.invariant.versions called holds)
      (c.in_ok-end.ensures.stays called (c.loop-turn.invariant.holds called holds)).versions;
  rule = c.in_ok-end.ensures.rule ∙ c.loop-turn.invariant.rule;
  greeting = c.in_ok-end.ensures.greeting ∙ c.loop-turn.invariant.greeting;
  took = took_more c.loop-turn._turn c.loop-turn.invariant.took c.in_ok-end.ensures.turns c.in_default.is c.in_ok-end.ensures.counts;
  fine = c.in_ok-end.ensures.texts.fine ∙ c.loop-turn.invariant.fine;
  same_reference = c.in_ok-end.ensures.texts.same_reference ∙ c.loop-turn.invariant.same_reference;
}

pub returns-in-Some-clause-stopped : goal.returns-in-Some-clause-stopped
returns-in-Some-clause-stopped g c = λ called holds.
    subst (λ (o : Option End). Turned o c.follow_turn.new.client c.follow_turn.new.progress called (g.W.Wires.told c.follow_turn.new.wires)) c.in-Some.is
    (c.in_ok-end.ensures.turned called (c.loop-turn.invariant.holds called holds))

pub returns-clause-stopped : goal.returns-clause-stopped
returns-clause-stopped g c = λ called holds.
    let held = holds_same {c = c.loop-turn.client} {d = c.put_at_rest.new.client} c.in_ok-put_at_rest.ensures.same (c.loop-turn.invariant.holds called holds) in
    stops c.last_end.result c.put_at_rest.new.client c.loop-turn.progress called (g.W.Wires.told c.loop-turn.wires) held c.last_end.ensures.end

pub returns-in-Some-clause-put : goal.returns-in-Some-clause-put
returns-in-Some-clause-put g c = λ watch called same holds were.
    c.in_ok-end.ensures.all_put c.in-Some.end c.in-Some.is watch called (g.T.Texts.told c.args.texts.now) (ap (λ (r : Rule). r.watch) c.loop-turn.invariant.rule ∙ same)
    (c.loop-turn.invariant.holds called holds) (c.loop-turn.invariant.puts watch called same holds were)

pub returns-clause-put : goal.returns-clause-put
returns-clause-put g c = λ watch called same holds were.
    let turn = c.loop-turn.invariant in
    let have = turn.puts watch called same holds were in
    all_by (record {
      holds = turn.holds called holds;
      follows = turn.follows;
      watched = ap (λ (r : Rule). r.watch) turn.rule ∙ same;
      have = have;
    })
    (c.in_ok-put_at_rest.ensures.put have.texts have.newest)

pub returns-in_err-end-clause-put_some : goal.returns-in_err-end-clause-put_some
returns-in_err-end-clause-put_some g c = (let p = err_from_is_err_and c.from_residual.result c.from_residual.ensures.1 in rw (p.1, p.2) (λ watch called same holds were.
    c.in_err-end.ensures.put_some watch called (g.T.Texts.told c.args.texts.now) (ap (λ (r : Rule). r.watch) c.loop-turn.invariant.rule ∙ same)
    (c.loop-turn.invariant.holds called holds) (c.loop-turn.invariant.puts watch called same holds were)))

pub returns-in_err-put_at_rest-clause-put_some : goal.returns-in_err-put_at_rest-clause-put_some
returns-in_err-put_at_rest-clause-put_some g c = (let p = err_from_is_err_and c.from_residual-in_err-put_at_rest.result c.from_residual-in_err-put_at_rest.ensures.1 in rw (p.1, p.2) (λ watch called same holds were.
    let turn = c.loop-turn.invariant in
    let have = turn.puts watch called same holds were in
    some_by _ _ (record {
      holds = turn.holds called holds;
      follows = turn.follows;
      watched = ap (λ (r : Rule). r.watch) turn.rule ∙ same;
      have = have;
    })
    (c.in_err-put_at_rest.ensures.put_some have.texts have.newest)))

pub returns-clause-stays : goal.returns-clause-stays
returns-clause-stays g c = λ called holds. record { right = tt; versions = c.loop-turn.invariant.versions called holds }

pub returns-in-Some-clause-stays : goal.returns-in-Some-clause-stays
returns-in-Some-clause-stays g c = λ called holds.
    let turn = c.loop-turn.invariant in
    stays_on turn.greeting (turn.versions called holds) (c.in_ok-end.ensures.stays called (turn.holds called holds))

pub returns-in_err-end-clause-stays : goal.returns-in_err-end-clause-stays
returns-in_err-end-clause-stays g c = (let p = err_from_is_err_and c.from_residual.result c.from_residual.ensures.1 in rw p.1 (λ called holds.
    let turn = c.loop-turn.invariant in
    stays_err turn.rule turn.greeting (turn.versions called holds) (c.in_err-end.ensures.stays called (turn.holds called holds))))

pub returns-in_err-put_at_rest-clause-stays : goal.returns-in_err-put_at_rest-clause-stays
returns-in_err-put_at_rest-clause-stays g c = (let p = err_from_is_err_and c.from_residual-in_err-put_at_rest.result c.from_residual-in_err-put_at_rest.ensures.1 in rw p.1 (λ called holds.
    let turn = c.loop-turn.invariant in
    record {
      right = right_by (g.W.Wires.told c.loop-turn.wires) turn.rule (holds_right c.loop-turn.client (turn.holds called holds));
      versions = turn.versions called holds;
    }))

pub returns-clause-texts : goal.returns-clause-texts
returns-clause-texts g c = let rest = c.in_ok-put_at_rest.ensures.texts in
    texts_ok (rest.fine ∙ c.loop-turn.invariant.fine) (rest.same_reference ∙ c.loop-turn.invariant.same_reference)

pub returns-in-Some-clause-texts : goal.returns-in-Some-clause-texts
returns-in-Some-clause-texts g c = let turn = c.in_ok-end.ensures.texts in
    texts_ok (turn.fine ∙ c.loop-turn.invariant.fine) (turn.same_reference ∙ c.loop-turn.invariant.same_reference)

pub returns-in_err-end-clause-texts : goal.returns-in_err-end-clause-texts
returns-in_err-end-clause-texts g c = (let p = err_from_is_err_and c.from_residual.result c.from_residual.ensures.1 in rw (p.1, p.2) (texts_err _ c.loop-turn.invariant.fine c.loop-turn.invariant.same_reference c.in_err-end.ensures.texts))

pub returns-in_err-put_at_rest-clause-texts : goal.returns-in_err-put_at_rest-clause-texts
returns-in_err-put_at_rest-clause-texts g c = (let p = err_from_is_err_and c.from_residual-in_err-put_at_rest.result c.from_residual-in_err-put_at_rest.ensures.1 in rw (p.1, p.2) (texts_err _ c.loop-turn.invariant.fine c.loop-turn.invariant.same_reference c.in_err-put_at_rest.ensures.texts))

pub returns-clause-rule : goal.returns-clause-rule
returns-clause-rule g c = rule_same c.in_ok-put_at_rest.ensures.same ∙ c.loop-turn.invariant.rule

pub returns-in-Some-clause-rule : goal.returns-in-Some-clause-rule
returns-in-Some-clause-rule g c = c.in_ok-end.ensures.rule ∙ c.loop-turn.invariant.rule

pub returns-in-Some-clause-done : goal.returns-in-Some-clause-done
returns-in-Some-clause-done g c = λ is.
    let told = subst (λ (e : End). IsEndTold Following e (g.W.Wires.told c.loop-turn.wires).tally (g.W.Wires.told c.follow_turn.new.wires).tally) is (c.in_ok-end.ensures.counts.ended c.in-Some.end c.in-Some.is) in
    inr (told ∙ ap (λ (n : ℕ). n + 1) c.loop-turn.invariant.took.unended)

pub returns-in-Some-clause-ends : goal.returns-in-Some-clause-ends
returns-in-Some-clause-ends g c = turn_ends Following c.in-Some.end c.args.turns _ (g.W.Wires.told c.loop-turn.wires).tally
    (g.W.Wires.told c.follow_turn.new.wires).tally c.in-Some.is c.in_ok-end.ensures.counts c.loop-turn.invariant.took.taken
    (omega arith) c.loop-turn.invariant.took.unended

pub returns-clause-ends : goal.returns-clause-ends
returns-clause-ends g c = turns_used c.last_end.result c.args.turns
    (g.W.Wires.told c.loop-turn.wires).tally c.last_end.ensures.unended (omega (arith, c.loop-turn.invariant.took.taken))

pub returns-in-Some-clause-takes : goal.returns-in-Some-clause-takes
returns-in-Some-clause-takes g c = turns_more c.args.turns _ c.loop-turn.invariant.took (omega arith) c.in_ok-end.ensures.turns

pub returns-in_err-end-clause-takes : goal.returns-in_err-end-clause-takes
returns-in_err-end-clause-takes g c = turns_more c.args.turns _ c.loop-turn.invariant.took (omega arith) c.in_err-end.ensures.turns

pub returns-in_err-put_at_rest-clause-takes : goal.returns-in_err-put_at_rest-clause-takes
returns-in_err-put_at_rest-clause-takes g c = turns_over c.args.turns _ c.loop-turn.invariant.took (omega arith)

pub returns-clause-takes : goal.returns-clause-takes
returns-clause-takes g c = turns_over c.args.turns _ c.loop-turn.invariant.took (omega arith)
