use Rattle.std.proofs.Common.{◌≡◌, ◌≢◌, inl, inr, ℕ, ◌<◌, length, get_or, sym, ◌∙◌, ap, subst, arith}
use Rattle.std.specs.Prelude.{slice_set}
use Rattle.std.proofs.lemmas.Bool.{cases_eq, cases_lt}
use Rattle.std.proofs.lemmas.Grind.{common_steps}
use Rattle.std.proofs.lemmas.List.{get_or_past}
use Rattle.cf_peer.specs.declared.peer.Cause.TheVariants.{Omits}
use Rattle.cf_peer.specs.Trail.{Passed, part_of, trail, with_item}
use Rattle.cf_place.specs.declared.place.Loss.TheVariants.{NotDialled, Closed as ClosedFor}
use Rattle.cf_place.specs.declared.place.Place.{Place}
use Rattle.cf_place.specs.Places.{Fits, is_here, nobody, place_at}
use Rattle.cf_client.specs.Settled.{IsRightAt}
use Rattle.cf_client.proofs.Losing.{lost_passed}
use Rattle.cf_client.proofs.Settled.{set_other}
use Rattle.cf_client.proofs.Standing.{any_default, set_is, still_lost}
use Rattle.cf_client.proofs.ask.pass_all.Goals as goal

pub loop-place-preserved : goal.loop-place-preserved
loop-place-preserved c =
    let i = c.loop-place.place-index in
    let places = c.loop-place.places in
    let new = c.pass_at.new.place in
    let lt : i < length places = omega arith in
    let here = set_is places i new lt in
    let item : place_at c.args.places.now i ≡ get_or places i c.place-item.result = sym (any_default places i c.place-item.result nobody lt ∙ c.loop-place.invariant.left i (omega arith)) in
    record {
      done = λ p lt1 part fits. elim (cases_eq p i) [
        | inl e ↦ subst (λ (x : Place). Fits x (with_item (Passed c.args.seconds) part)) (sym (ap (λ (k : ℕ). place_at (slice_set places i new) k) e ∙ here))
            (c.pass_at.ensures.fits part (subst (λ (x : Place). Fits x part) (ap (place_at c.args.places.now) e ∙ item) fits))
        | inr ne ↦ subst (λ (x : Place). Fits x (with_item (Passed c.args.seconds) part)) (sym (set_other places i p new ne)) (c.loop-place.invariant.done p (omega (arith, lt1, ne)) part fits)
      ];
      here = λ p. elim (cases_eq p i) [
        | inl e ↦ ap is_here (ap (λ (k : ℕ). place_at (slice_set places i new) k) e ∙ here) ∙ c.pass_at.ensures.here ∙ sym (ap is_here (ap (place_at c.args.places.now) e ∙ item))
        | inr ne ↦ ap is_here (set_other places i p new ne) ∙ c.loop-place.invariant.here p
      ];
      lost = λ p loss is. elim (cases_eq p i) [
        | inl e ↦ ap (place_at c.args.places.now) e ∙ item
            ∙ c.pass_at.ensures.lost loss (sym (ap (λ (k : ℕ). place_at (slice_set places i new) k) e ∙ here) ∙ is)
        | inr ne ↦ c.loop-place.invariant.lost p loss (sym (set_other places i p new ne) ∙ is)
      ];
      right = λ p table right. elim (cases_eq p i) [
        | inl e ↦ subst (λ (x : Place). IsRightAt x table) (sym (ap (λ (k : ℕ). place_at (slice_set places i new) k) e ∙ here))
            (c.pass_at.ensures.right table (subst (λ (x : Place). IsRightAt x table) (ap (place_at c.args.places.now) e ∙ item) right))
        | inr ne ↦ subst (λ (x : Place). IsRightAt x table) (sym (set_other places i p new ne)) (c.loop-place.invariant.right p table right)
      ];
      left = λ p le. let ne : p ≢ i = λ e. absurd (omega (arith, le, e)) in set_other places i p new ne ∙ c.loop-place.invariant.left p (omega (arith, le));
    }

pub returns-clause-stand : goal.returns-clause-stand
returns-clause-stand c = λ log stand. record {
  count = grind (arith, common_steps, stand.count);
  omitted = λ p is. stand.omitted p (c.loop-place.invariant.lost p (ClosedFor Omits) is);
  named = λ right p is. still_lost (place_at c.args.places.now p) (place_at c.loop-place.places p) (ClosedFor Omits)
      (c.loop-place.invariant.here p) (c.loop-place.invariant.lost p) (stand.named right.1 p is);
  each = λ p. elim (cases_lt p c.loop-place.place-index) [
    | inl lt ↦ c.loop-place.invariant.done p lt (part_of log p) (stand.each p)
    | inr le ↦
        let past : place_at c.args.places.now p ≡ nobody = get_or_past c.args.places.now p nobody (omega (arith, le)) in
        subst (λ (x : Place). Fits x (with_item (Passed c.args.seconds) (part_of log p)))
        (sym (c.loop-place.invariant.left p le ∙ past))
        (lost_passed NotDialled c.args.seconds (trail log p)
        (subst (λ (x : Place). Fits x (part_of log p)) past (stand.each p)))
  ];
}

pub returns-clause-right : goal.returns-clause-right
returns-clause-right c = λ tables right p. c.loop-place.invariant.right p (tables p) (right p)
