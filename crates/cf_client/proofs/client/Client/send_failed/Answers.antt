use Rattle.std.proofs.Common.{◌<◌, ◌≤◌, ℕ, List, length, refl, sym, ◌∙◌, subst, ap, arith}
use Rattle.std.proofs.lemmas.List.{with_items_is}
use Rattle.std.proofs.lemmas.List.Elements.{All-nil}
use Rattle.std.specs.List.{All}
use Rattle.cf_peer.specs.Acts.{IsDoable}
use Rattle.cf_sync.specs.Fetching.{Rule}
use Rattle.cf_place.specs.declared.place.Place.{Place}
use Rattle.cf_place.specs.Places.{AreCalm, place_at}
use Rattle.cf_client.specs.Stands.{greeting_by}
use Rattle.cf_tracker.specs.Tracker.{watch_of}
use Rattle.cf_client.proofs.Ordering.{in_order_by, prepared_none}
use Rattle.cf_client.proofs.Answering.{answers_back, order_lent, right_back, settled_back, stands_lent}
use Rattle.cf_client.proofs.Greeting.{reflects_cut, acts_tell}
use Rattle.cf_client.proofs.Innocent.{settled_calm}
use Rattle.cf_client.proofs.client.Client.send_failed.Goals as goal

pub cut_off-requires-clause-order : goal.cut_off-requires-clause-order
cut_off-requires-clause-order g c =
    order_lent c.args.self.now c.as_mut_slice-places.result.now c.new-acts.result.items c.if-self.false c.as_mut_slice-places.ensures.value

pub ask_all-requires-clause-calm : goal.ask_all-requires-clause-calm
ask_all-requires-clause-calm g c =
    let mode = c.args.self.now.mode in
    let kept = c.args.self.now.places.items in
    let calm : AreCalm c.as_mut_slice-places.result.now =
    subst AreCalm (sym c.as_mut_slice-places.ensures.value)
    (λ p. settled_calm mode (place_at kept p) ((c.args.self.now.settled c.if-self.false).each p)) in
    (c.in_ok-cut_off.ensures.moves mode).calm calm

pub ask_all-requires-clause-order : goal.ask_all-requires-clause-order
ask_all-requires-clause-order g c = (c.in_ok-cut_off.ensures.moves c.args.self.now.mode).order

pub invariant_of-self-2-clause-settled : goal.invariant_of-self-2-clause-settled
invariant_of-self-2-clause-settled g c = λ alive. settled_back c.args.self.now.places c.in_ok-ask_all.ensures.settled (omega arith)

pub invariant_of-self-2-clause-right : goal.invariant_of-self-2-clause-right
invariant_of-self-2-clause-right g c = λ alive. right_back c.args.self.now.places c.in_ok-ask_all.ensures.moves.order (omega arith)

pub returns-clause-answers : goal.returns-clause-answers
returns-clause-answers g c = λ log cut lt reflects is.
    let lent = c.as_mut_slice-places.ensures in
    let here = subst (λ (places : List Place). c.args.p.0 < length places) (sym lent.value) lt in
    let start = stands_lent c.args.self.now c.as_mut_slice-places.result.now c.new-acts.result.items log lent.value c.new-acts.ensures.items reflects in
    answers_back _ c.ask_all.new.places c.ask_all.new.acts.items cut refl
    (with_items_is c.args.self.now.places c.ask_all.new.places (omega (arith, c.ask_all.auto.places, c.cut_off.auto.places, lent.len)))
    (c.in_ok-ask_all.ensures.moves.stands cut cut refl ((c.in_ok-cut_off.ensures.moves c.args.self.now.mode).stands log cut (here, is) start))

pub returns-clause-unused : goal.returns-clause-unused
returns-clause-unused g c = λ over log reflects.
    let lent = c.as_mut_slice-places.ensures in
    let beyond = subst (λ (places : List Place). length places ≤ c.args.p.0) (sym lent.value) over in
    let start = stands_lent c.args.self.now c.as_mut_slice-places.result.now c.new-acts.result.items log lent.value c.new-acts.ensures.items reflects in
    answers_back _ c.ask_all.new.places c.ask_all.new.acts.items log refl
    (with_items_is c.args.self.now.places c.ask_all.new.places (omega (arith, c.ask_all.auto.places, c.cut_off.auto.places, lent.len)))
    (c.in_ok-ask_all.ensures.moves.stands log log refl ((c.in_ok-cut_off.ensures.unused beyond c.args.self.now.mode).stands log log refl start))

pub returns-clause-tells : goal.returns-clause-tells
returns-clause-tells g c = λ log cut lt reflects is.
    acts_tell (record { watch = watch_of c.ask_all.new.tracker; mode = c.args.self.now.mode }) (greeting_by c.args.self.now) c.ask_all.new.acts.items cut (reflects_cut c.args.self.now c.args.p log cut is reflects) (returns-clause-answers g c log cut lt reflects is).allowed

pub returns-clause-doable : goal.returns-clause-doable
returns-clause-doable g c =
    c.in_ok-ask_all.ensures.moves.doable ((c.in_ok-cut_off.ensures.moves c.args.self.now.mode).doable
    (subst (All IsDoable) (sym c.new-acts.ensures.items) (All-nil IsDoable)))

pub returns-clause-rule : goal.returns-clause-rule
returns-clause-rule g c =
    let by : List (List ℕ) → Rule = λ watch. record { watch = watch; mode = c.args.self.now.mode } in
    ap by (c.in_ok-ask_all.ensures.moves.watch ∙ (c.in_ok-cut_off.ensures.moves c.args.self.now.mode).watch)

pub returns-clause-judged : goal.returns-clause-judged
returns-clause-judged g c = record { same = refl; kept = λ block hash. c.in_ok-ask_all.ensures.verdicts block hash ∙ c.in_ok-cut_off.ensures.verdicts block hash }

pub returns-clause-in_order : goal.returns-clause-in_order
returns-clause-in_order g c =
    in_order_by c.cut_off.new.places c.cut_off.new.acts.items c.ask_all.new.acts.items
    (prepared_none c.cut_off.new.acts.items c.in_ok-cut_off.ensures.told)
    c.in_ok-ask_all.ensures.asked
