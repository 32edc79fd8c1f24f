use Rattle.std.proofs.Common.{◌≡◌, false, inl, inr, ◌∙◌, ap, refl, sym}
use Rattle.std.proofs.lemmas.Bool.{both_ways}
use Rattle.cf_tracker.specs.Seen.{seen_of}
use Rattle.cf_hear.proofs.Tracking.{put_forgotten}
use Rattle.cf_place.specs.Places.{is_here, nobody, place_at}
use Rattle.cf_client.proofs.Standing.{any_default}
use Rattle.cf_client.proofs.blame.close_if_claimed.Goals as goal

pub returns-then-not-is_here-clause-shuts : goal.returns-then-not-is_here-clause-shuts
returns-then-not-is_here-clause-shuts g c =
    let here = any_default c.args.places.now c.args.i c.index-places-i.result nobody c.requires.here in
    let off : is_here (place_at c.args.places.now c.args.i) ≡ false =
    ap is_here (sym here) ∙ sym c.is_here.ensures ∙ c.if-not-is_here.true in
    inl ((λ one. both_ways (is_here (place_at c.args.places.now c.args.i)) off one.here), refl)

pub returns-then-not-is_claimed-clause-shuts : goal.returns-then-not-is_claimed-clause-shuts
returns-then-not-is_claimed-clause-shuts g c =
    inl ((λ one. c.is_claimed.ensures.no c.if-not-is_claimed.true one.claimed), refl)

pub returns-clause-shuts : goal.returns-clause-shuts
returns-clause-shuts g c =
    let here = any_default c.args.places.now c.args.i c.index-places-i.result nobody c.requires.here in
    inr (
      record {
        here = ap is_here (sym here) ∙ sym c.is_here.ensures ∙ c.if-not-is_here.false;
        claimed = c.is_claimed.ensures.yes c.if-not-is_claimed.false;
      },
      put_forgotten (seen_of c.args.tracker.now) (seen_of c.forget.new.self) (record { 0 = c.args.i })
          c.forget.ensures.chains c.forget.ensures.claims c.forget.ensures.opens c.forget.ensures.stays,
      refl,
      c.in_ok-push.ensures.items,
    )
