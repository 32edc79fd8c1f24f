use Rattle.std.proofs.Common.{refl, ◌∙◌}
use Rattle.std.proofs.lemmas.Result.{err_from_is_err_and}
use Rattle.cf_client.specs.Stands.{rule_by, greeting_by}
use Rattle.cf_peer.specs.declared.mode.Mode.TheVariants.{Following}
use Rattle.cf_run.specs.declared.outcome.End.TheVariants.{NoPeers}
use Rattle.cf_run.proofs.Courses.{counted_end, counted_on, counted_over, runs_self, told_following, turns_none}
use Rattle.cf_run.proofs.Passing.{keeps_so}
use Rattle.cf_run.proofs.Turns.{ended_stops, holds_same, may_follow, may_held, may_rest, mode_same, reflects_same, rule_same, greeting_same, ended_holds}
use Rattle.cf_run.proofs.Puts.{all_by, have_then, putting_ended, some_by, some_then, texts_err, texts_ok, texts_short}
use Rattle.cf_run.proofs.Rights.{holds_right, right_by, stays_err, stays_on}
use Rattle.cf_run.proofs.follow.follow_turn.Goals as goal

pub returns-in-NoPeers-clause-turned : goal.returns-in-NoPeers-clause-turned
returns-in-NoPeers-clause-turned g c = λ called holds.
    let held = holds_same {c = c.args.client.now} {d = c.put_at_rest.new.client} c.in_ok-put_at_rest.ensures.same holds in
    record { holds = held; why = c.in-NoPeers.ensures.state held.actual held.reflects }

pub returns-then-more-clause-turned : goal.returns-then-more-clause-turned
returns-then-more-clause-turned g c = λ called holds.
    let same = c.in_ok-put_at_rest.ensures.same in
    let held = holds_same {c = c.args.client.now} {d = c.put_at_rest.new.client} same holds in
    c.in_ok-more.ensures.holds c.if-more.true called held
    (may_held _ same held c.requires.follows c.in_default.not-NoPeers c.state.ensures.state)

pub returns-clause-turned : goal.returns-clause-turned
returns-clause-turned g c = λ called holds.
    let rest = c.in_ok-put_at_rest.ensures in
    let last = c.put_at_rest-2.new.client in
    let over = c.in_ok-more.ensures.over c.if-more.false in
    let more = c.in_ok-put_at_rest-2.ensures.same ∙ over.0 in
    let held = holds_same {c = c.args.client.now} {d = last} (more ∙ rest.same) holds in
    let state = c.state.ensures.state held.actual (reflects_same {c = c.put_at_rest.new.client} {d = last} more held.reflects) in
    let may = may_follow (rule_by last).mode _ held.actual
    (mode_same (more ∙ rest.same) c.requires.follows) c.in_default.not-NoPeers state in
    rw (over.1, over.2)
    (ended_stops c.end_of_wires.result last c.args.progress.now called (g.W.Wires.told c.args.wires.now) held may
    (c.end_of_wires.ensures.end held.actual held.reflects))

pub returns-then-more-clause-puts : goal.returns-then-more-clause-puts
returns-then-more-clause-puts g c = λ is watch called first same holds have.
    have_then (record { holds = holds; follows = c.requires.follows; watched = same; have = have })
    (c.in_ok-put_at_rest.ensures.put have.texts have.newest) c.in_ok-more.ensures.puts

pub returns-in-NoPeers-clause-all_put : goal.returns-in-NoPeers-clause-all_put
returns-in-NoPeers-clause-all_put g c = λ e is watch called first same holds have.
    all_by (record { holds = holds; follows = c.requires.follows; watched = same; have = have })
    (c.in_ok-put_at_rest.ensures.put have.texts have.newest)

pub returns-clause-all_put : goal.returns-clause-all_put
returns-clause-all_put g c = λ e is watch called first same holds have.
    let rest = c.in_ok-put_at_rest.ensures in
    let over = c.in_ok-more.ensures.over c.if-more.false in
    let may = may_rest _ rest.same holds c.requires.follows c.in_default.not-NoPeers c.state.ensures.state in
    let now = putting_ended (record { holds = holds; follows = c.requires.follows; watched = same; have = have })
    (rest.put have.texts have.newest) (over.0 ∙ rest.same) over.1 over.2 may in
    all_by now (c.in_ok-put_at_rest-2.ensures.put now.have.texts now.have.newest)

pub returns-in_err-put_at_rest-clause-put_some : goal.returns-in_err-put_at_rest-clause-put_some
returns-in_err-put_at_rest-clause-put_some g c = (let p = err_from_is_err_and c.from_residual.result c.from_residual.ensures.1 in rw (p.1, p.2) (λ watch called first same holds have.
    some_by _ _ (record { holds = holds; follows = c.requires.follows; watched = same; have = have })
    (c.in_err-put_at_rest.ensures.put_some have.texts have.newest)))

pub returns-in_err-more-clause-put_some : goal.returns-in_err-more-clause-put_some
returns-in_err-more-clause-put_some g c = (let p = err_from_is_err_and c.from_residual-in_err-more.result c.from_residual-in_err-more.ensures.1 in rw (p.1, p.2) (λ watch called first same holds have.
    some_then (record { holds = holds; follows = c.requires.follows; watched = same; have = have })
    (c.in_ok-put_at_rest.ensures.put have.texts have.newest) c.in_err-more.ensures.turns.puts))

pub returns-in_err-put_at_rest-2-clause-put_some : goal.returns-in_err-put_at_rest-2-clause-put_some
returns-in_err-put_at_rest-2-clause-put_some g c = (let p = err_from_is_err_and c.from_residual-in_err-put_at_rest-2.result c.from_residual-in_err-put_at_rest-2.ensures.1 in rw (p.1, p.2) (λ watch called first same holds have.
    let rest = c.in_ok-put_at_rest.ensures in
    let over = c.in_ok-more.ensures.over c.if-more.false in
    let may = may_rest _ rest.same holds c.requires.follows c.in_default.not-NoPeers c.state.ensures.state in
    let now = putting_ended (record { holds = holds; follows = c.requires.follows; watched = same; have = have })
    (rest.put have.texts have.newest) (over.0 ∙ rest.same) over.1 over.2 may in
    some_by _ _ now (c.in_err-put_at_rest-2.ensures.put_some now.have.texts now.have.newest)))

pub returns-in-NoPeers-clause-stays : goal.returns-in-NoPeers-clause-stays
returns-in-NoPeers-clause-stays g c = λ called holds. record { right = tt; versions = λ has. has }

pub returns-then-more-clause-stays : goal.returns-then-more-clause-stays
returns-then-more-clause-stays g c = λ called holds.
    let same = c.in_ok-put_at_rest.ensures.same in
    let held = holds_same {c = c.args.client.now} {d = c.put_at_rest.new.client} same holds in
    let may = may_held _ same held c.requires.follows c.in_default.not-NoPeers c.state.ensures.state in
    stays_on (greeting_same same) (λ has. has) (c.in_ok-more.ensures.stays called held may)

pub returns-clause-stays : goal.returns-clause-stays
returns-clause-stays g c = λ called holds.
    let same = c.in_ok-put_at_rest.ensures.same in
    let held = holds_same {c = c.args.client.now} {d = c.put_at_rest.new.client} same holds in
    let may = may_held _ same held c.requires.follows c.in_default.not-NoPeers c.state.ensures.state in
    stays_on (greeting_same same) (λ has. has) (c.in_ok-more.ensures.stays called held may)

pub returns-in_err-put_at_rest-clause-stays : goal.returns-in_err-put_at_rest-clause-stays
returns-in_err-put_at_rest-clause-stays g c = (let p = err_from_is_err_and c.from_residual.result c.from_residual.ensures.1 in rw p.1 (λ called holds. record { right = holds_right c.args.client.now holds; versions = λ has. has }))

pub returns-in_err-more-clause-stays : goal.returns-in_err-more-clause-stays
returns-in_err-more-clause-stays g c = (let p = err_from_is_err_and c.from_residual-in_err-more.result c.from_residual-in_err-more.ensures.1 in rw p.1 (λ called holds.
    let same = c.in_ok-put_at_rest.ensures.same in
    let held = holds_same {c = c.args.client.now} {d = c.put_at_rest.new.client} same holds in
    let may = may_held _ same held c.requires.follows c.in_default.not-NoPeers c.state.ensures.state in
    stays_err (rule_same same) (greeting_same same) (λ has. has) (c.in_err-more.ensures.stays called held may)))

pub returns-in_err-put_at_rest-2-clause-stays : goal.returns-in_err-put_at_rest-2-clause-stays
returns-in_err-put_at_rest-2-clause-stays g c = (let p = err_from_is_err_and c.from_residual-in_err-put_at_rest-2.result c.from_residual-in_err-put_at_rest-2.ensures.1 in rw p.1 (λ called holds.
    let same = c.in_ok-put_at_rest.ensures.same in
    let held = holds_same {c = c.args.client.now} {d = c.put_at_rest.new.client} same holds in
    let may = may_held _ same held c.requires.follows c.in_default.not-NoPeers c.state.ensures.state in
    let over = c.in_ok-more.ensures.over c.if-more.false in
    let rest = may_rest _ same holds c.requires.follows c.in_default.not-NoPeers c.state.ensures.state in
    record {
      right = right_by (g.W.Wires.told c.take_next.new.wires) (rule_same (over.0 ∙ same))
          (holds_right c.take_next.new.client (ended_holds (over.0 ∙ same) over.1 over.2 holds rest));
      versions = keeps_so (greeting_by c.put_at_rest.new.client) (greeting_by c.args.client.now)
          (g.W.Wires.told c.args.wires.now) (g.W.Wires.told c.take_next.new.wires) (greeting_same same) (c.in_ok-more.ensures.stays called held may).versions;
    }))

pub returns-in-NoPeers-clause-counts : goal.returns-in-NoPeers-clause-counts
returns-in-NoPeers-clause-counts g c = counted_end Following NoPeers _ _ (λ is. absurd (cc is)) refl tt

pub returns-then-more-clause-counts : goal.returns-then-more-clause-counts
returns-then-more-clause-counts g c = counted_on Following _ _ (c.in_ok-more.ensures.taken c.if-more.true) (c.in_ok-more.ensures.unended c.if-more.true)

pub returns-clause-counts : goal.returns-clause-counts
returns-clause-counts g c = counted_over Following c.end_of_wires.result _ _ c.end_of_wires.ensures.untired
    (c.in_ok-more.ensures.over c.if-more.false).2 (told_following c.end_of_wires.result _ _ refl)

pub returns-in-NoPeers-clause-texts : goal.returns-in-NoPeers-clause-texts
returns-in-NoPeers-clause-texts g c = texts_ok c.in_ok-put_at_rest.ensures.texts.fine c.in_ok-put_at_rest.ensures.texts.same_reference

pub returns-then-more-clause-texts : goal.returns-then-more-clause-texts
returns-then-more-clause-texts g c = texts_ok c.in_ok-put_at_rest.ensures.texts.fine c.in_ok-put_at_rest.ensures.texts.same_reference

pub returns-clause-texts : goal.returns-clause-texts
returns-clause-texts g c = let one = c.in_ok-put_at_rest.ensures.texts in
    let two = c.in_ok-put_at_rest-2.ensures.texts in
    texts_ok (two.fine ∙ one.fine) (two.same_reference ∙ one.same_reference)

pub returns-in_err-put_at_rest-clause-texts : goal.returns-in_err-put_at_rest-clause-texts
returns-in_err-put_at_rest-clause-texts g c = (let p = err_from_is_err_and c.from_residual.result c.from_residual.ensures.1 in rw (p.1, p.2) (texts_err _ refl refl c.in_err-put_at_rest.ensures.texts))

pub returns-in_err-more-clause-texts : goal.returns-in_err-more-clause-texts
returns-in_err-more-clause-texts g c = (let p = err_from_is_err_and c.from_residual-in_err-more.result c.from_residual-in_err-more.ensures.1 in rw (p.1, p.2) (texts_short c.in_ok-put_at_rest.ensures.texts.fine c.in_ok-put_at_rest.ensures.texts.same_reference))

pub returns-in_err-put_at_rest-2-clause-texts : goal.returns-in_err-put_at_rest-2-clause-texts
returns-in_err-put_at_rest-2-clause-texts g c = (let p = err_from_is_err_and c.from_residual-in_err-put_at_rest-2.result c.from_residual-in_err-put_at_rest-2.ensures.1 in rw (p.1, p.2) (texts_err _ c.in_ok-put_at_rest.ensures.texts.fine c.in_ok-put_at_rest.ensures.texts.same_reference c.in_err-put_at_rest-2.ensures.texts))

pub returns-in-NoPeers-clause-rule : goal.returns-in-NoPeers-clause-rule
returns-in-NoPeers-clause-rule g c = rule_same c.in_ok-put_at_rest.ensures.same

pub returns-then-more-clause-rule : goal.returns-then-more-clause-rule
returns-then-more-clause-rule g c = c.in_ok-more.ensures.terms.rule ∙ rule_same c.in_ok-put_at_rest.ensures.same

pub returns-clause-rule : goal.returns-clause-rule
returns-clause-rule g c = rule_same c.in_ok-put_at_rest-2.ensures.same ∙ c.in_ok-more.ensures.terms.rule ∙ rule_same c.in_ok-put_at_rest.ensures.same

pub returns-in-NoPeers-clause-greeting : goal.returns-in-NoPeers-clause-greeting
returns-in-NoPeers-clause-greeting g c = greeting_same c.in_ok-put_at_rest.ensures.same

pub returns-then-more-clause-greeting : goal.returns-then-more-clause-greeting
returns-then-more-clause-greeting g c = c.in_ok-more.ensures.terms.greeting ∙ greeting_same c.in_ok-put_at_rest.ensures.same

pub returns-clause-greeting : goal.returns-clause-greeting
returns-clause-greeting g c = greeting_same c.in_ok-put_at_rest-2.ensures.same ∙ c.in_ok-more.ensures.terms.greeting ∙ greeting_same c.in_ok-put_at_rest.ensures.same

pub returns-in_err-put_at_rest-clause-turns : goal.returns-in_err-put_at_rest-clause-turns
returns-in_err-put_at_rest-clause-turns g c = turns_none _ _ (runs_self _ c.requires.step) refl

pub returns-in-NoPeers-clause-turns : goal.returns-in-NoPeers-clause-turns
returns-in-NoPeers-clause-turns g c = turns_none _ _ (runs_self _ c.requires.step) refl
