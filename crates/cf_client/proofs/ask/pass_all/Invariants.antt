use Rattle.std.proofs.Common.{◌≡◌, ℕ, ◌<◌, ◌≤◌}
use Rattle.cf_peer.specs.Trail.{Part, with_item, Passed}
use Rattle.cf_dispute.specs.Claims.{Table}
use Rattle.cf_client.specs.Settled.{IsRightAt}
use Rattle.cf_place.specs.declared.place.Loss.{Loss}
use Rattle.cf_place.specs.declared.place.Place.TheVariants.{Lost}
use Rattle.cf_place.specs.Places.{Fits, place_at, is_here}
use Rattle.cf_client.proofs.ask.pass_all.Given as goal

abbrev pub invariant-loop-place : goal.invariant-loop-place
invariant-loop-place l = record {
  done : (p : ℕ) → p < l.place-index → (part : Part) → Fits (place_at l.fn.places p) part → Fits (place_at l.places p) (with_item (Passed l.seconds) part);
  here : (p : ℕ) → is_here (place_at l.places p) ≡ is_here (place_at l.fn.places p);
  lost : (p : ℕ) (loss : Loss) → place_at l.places p ≡ Lost loss → place_at l.fn.places p ≡ Lost loss;
  right : (p : ℕ) (table : Table) → IsRightAt (place_at l.fn.places p) table → IsRightAt (place_at l.places p) table;
  left : (p : ℕ) → l.place-index ≤ p → place_at l.places p ≡ place_at l.fn.places p;
}
