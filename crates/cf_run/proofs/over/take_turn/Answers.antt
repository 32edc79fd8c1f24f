use Rattle.std.proofs.Common.{refl}
use Rattle.std.proofs.lemmas.Result.{err_from_is_err_and}
use Rattle.cf_client.specs.Stands.{rule_by}
use Rattle.cf_peer.specs.declared.mode.Mode.TheVariants.{Once}
use Rattle.cf_run.specs.declared.outcome.End.TheVariants.{Synced, NoPeers, Ended as EndedFirst}
use Rattle.cf_run.proofs.Turns.{ended_stops, may_take}
use Rattle.cf_run.proofs.Courses.{counted_end, counted_on, counted_over, runs_self, turns_none}
use Rattle.cf_run.proofs.Rights.{stays_err, stays_on, terms_err, terms_on}
use Rattle.cf_run.proofs.over.take_turn.Goals as goal

pub returns-in-Synced-clause-turned : goal.returns-in-Synced-clause-turned
returns-in-Synced-clause-turned g c = λ called holds. record { holds = holds; why = c.in-Synced.ensures.state holds.actual holds.reflects }

pub returns-in-NoPeers-clause-turned : goal.returns-in-NoPeers-clause-turned
returns-in-NoPeers-clause-turned g c = λ called holds. record { holds = holds; why = c.in-NoPeers.ensures.state holds.actual holds.reflects }

pub returns-in-Synced-clause-turns : goal.returns-in-Synced-clause-turns
returns-in-Synced-clause-turns g c = turns_none _ _ (runs_self _ c.requires.step) refl

pub returns-in-NoPeers-clause-turns : goal.returns-in-NoPeers-clause-turns
returns-in-NoPeers-clause-turns g c = turns_none _ _ (runs_self _ c.requires.step) refl

pub returns-then-more-clause-turned : goal.returns-then-more-clause-turned
returns-then-more-clause-turned g c = λ called holds.
    c.in_ok-more.ensures.holds c.if-more.true called holds (may_take (rule_by c.args.client.now).mode holds.actual (c.in-Working.ensures.state holds.actual holds.reflects))

pub returns-clause-turned : goal.returns-clause-turned
returns-clause-turned g c = λ called holds.
    let busy = c.in-Working.ensures.state holds.actual holds.reflects in
    let over = c.in_ok-more.ensures.over c.if-more.false in
    rw (over.0, over.1, over.2)
    (ended_stops EndedFirst c.args.client.now c.args.progress.now called (g.W.Wires.told c.args.wires.now) holds (may_take (rule_by c.args.client.now).mode holds.actual busy)
    (holds.actual, (refl, busy)))

pub returns-in-Synced-clause-stays : goal.returns-in-Synced-clause-stays
returns-in-Synced-clause-stays g c = λ called holds. record { right = tt; versions = λ has. has }

pub returns-in-NoPeers-clause-stays : goal.returns-in-NoPeers-clause-stays
returns-in-NoPeers-clause-stays g c = λ called holds. record { right = tt; versions = λ has. has }

pub returns-then-more-clause-stays : goal.returns-then-more-clause-stays
returns-then-more-clause-stays g c = λ called holds.
    stays_on refl (λ has. has)
    (c.in_ok-more.ensures.stays called holds (may_take (rule_by c.args.client.now).mode holds.actual (c.in-Working.ensures.state holds.actual holds.reflects)))

pub returns-clause-stays : goal.returns-clause-stays
returns-clause-stays g c = λ called holds.
    stays_on refl (λ has. has)
    (c.in_ok-more.ensures.stays called holds (may_take (rule_by c.args.client.now).mode holds.actual (c.in-Working.ensures.state holds.actual holds.reflects)))

pub returns-in_err-more-clause-stays : goal.returns-in_err-more-clause-stays
returns-in_err-more-clause-stays g c = (let p = err_from_is_err_and c.from_residual.result c.from_residual.ensures.1 in rw p.1 (λ called holds.
    stays_err refl refl (λ has. has)
    (c.in_err-more.ensures.stays called holds (may_take (rule_by c.args.client.now).mode holds.actual (c.in-Working.ensures.state holds.actual holds.reflects)))))

pub returns-in-Synced-clause-terms : goal.returns-in-Synced-clause-terms
returns-in-Synced-clause-terms g c = record { rule = refl; greeting = refl }

pub returns-in-NoPeers-clause-terms : goal.returns-in-NoPeers-clause-terms
returns-in-NoPeers-clause-terms g c = record { rule = refl; greeting = refl }

pub returns-then-more-clause-terms : goal.returns-then-more-clause-terms
returns-then-more-clause-terms g c = terms_on refl refl c.in_ok-more.ensures.terms

pub returns-clause-terms : goal.returns-clause-terms
returns-clause-terms g c = terms_on refl refl c.in_ok-more.ensures.terms

pub returns-in_err-more-clause-terms : goal.returns-in_err-more-clause-terms
returns-in_err-more-clause-terms g c = (let p = err_from_is_err_and c.from_residual.result c.from_residual.ensures.1 in rw p.1 (terms_err refl c.in_err-more.ensures.terms))

pub returns-in-Synced-clause-counts : goal.returns-in-Synced-clause-counts
returns-in-Synced-clause-counts g c = counted_end Once Synced _ _ (λ is. absurd (cc is)) refl refl

pub returns-in-NoPeers-clause-counts : goal.returns-in-NoPeers-clause-counts
returns-in-NoPeers-clause-counts g c = counted_end Once NoPeers _ _ (λ is. absurd (cc is)) refl refl

pub returns-then-more-clause-counts : goal.returns-then-more-clause-counts
returns-then-more-clause-counts g c = counted_on Once _ _ (c.in_ok-more.ensures.taken c.if-more.true) (c.in_ok-more.ensures.unended c.if-more.true)

pub returns-clause-counts : goal.returns-clause-counts
returns-clause-counts g c = counted_over Once EndedFirst _ _ (λ is. absurd (cc is))
    (c.in_ok-more.ensures.over c.if-more.false).2 refl
