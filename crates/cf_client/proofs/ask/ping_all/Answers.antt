use Rattle.std.proofs.Common.{◌≡◌, ℕ, ◌<◌, true, inl, inr, length, refl, sym, ◌∙◌, ap, subst, arith}
use Rattle.std.proofs.lemmas.Bool.{both_ways, cases_eq, cases_lt}
use Rattle.std.proofs.lemmas.List.{get_or_past}
use Rattle.cf_place.specs.Places.{is_idle, nobody, place_at}
use Rattle.cf_client.specs.Steps.{desk, HasPingedOut}
use Rattle.cf_client.proofs.Ordering.{pings_none, pings_next}
use Rattle.cf_client.proofs.Pinging.{pinged_here, pinged_moves, pinged_one, pinged_others, pinged_same, ticked_self}
use Rattle.cf_client.proofs.Steps.{moves_ticked}
use Rattle.cf_client.proofs.ask.ping_all.Goals as goal

pub loop-i-init : goal.loop-i-init
loop-i-init g c = record {
  moves = ticked_self _ c.requires;
  done = λ p lt. absurd (omega (arith, lt));
  same = λ p is. refl;
  pings = pings_none 0 c.args.acts.now.items;
}

pub loop-i-preserved : goal.loop-i-preserved
loop-i-preserved g c =
    let i = c.loop-i.i in
    let was = c.loop-i.places in
    let now = c.ping_if_idle.new.places in
    let before = c.loop-i.invariant in
    let sent = c.in_ok-ping_if_idle.ensures in
    let lt : i < length was = omega (arith, c.loop-i-test.true, c.loop-i.auto.places) in
    record {
      moves = moves_ticked before.moves (pinged_moves (desk c.args.tracker.now was c.loop-i.acts.items) i now c.ping_if_idle.new.acts.items lt before.moves.order sent);
      done = λ p less idle. elim (cases_eq p i) [
        | inl same ↦ subst (λ (k : ℕ). HasPingedOut (place_at now k)) (sym same)
            (pinged_here i was now c.loop-i.acts.items c.ping_if_idle.new.acts.items lt sent
            (subst (λ (k : ℕ). is_idle (place_at now k) ≡ true) same idle))
        | inr other ↦
            let kept = pinged_others i was now c.loop-i.acts.items c.ping_if_idle.new.acts.items sent p other in
            subst HasPingedOut (sym kept) (before.done p (omega (arith, less, other)) (sym (ap is_idle kept) ∙ idle))
      ];
      same = λ p idle. elim (cases_eq p i) [
        | inl at ↦
            let kept = pinged_same i was now c.loop-i.acts.items c.ping_if_idle.new.acts.items lt sent
            (subst (λ (k : ℕ). is_idle (place_at now k) ≡ true) at idle) in
            let here = ap (place_at now) at ∙ kept ∙ ap (place_at was) (sym at) in
            here ∙ before.same p (sym (ap is_idle here) ∙ idle)
        | inr other ↦
            let here = pinged_others i was now c.loop-i.acts.items c.ping_if_idle.new.acts.items sent p other in
            here ∙ before.same p (sym (ap is_idle here) ∙ idle)
      ];
      pings = pings_next i c.args.acts.now.items c.loop-i.acts.items c.ping_if_idle.new.acts.items before.pings
          (pinged_one i was now c.loop-i.acts.items c.ping_if_idle.new.acts.items sent);
    }

pub returns-clause-pinged : goal.returns-clause-pinged
returns-clause-pinged g c = λ p idle. elim (cases_lt p (length c.loop-i.places)) [
  | inl lt ↦ c.loop-i.invariant.done p (omega (arith, lt, c.loop-i-test.false, c.loop-i.auto.places)) idle
  | inr past ↦ absurd (both_ways (is_idle (place_at c.loop-i.places p)) (ap is_idle (get_or_past c.loop-i.places p nobody past)) idle)
]

pub returns-clause-pings : goal.returns-clause-pings
returns-clause-pings g c = c.loop-i.invariant.pings.adds
