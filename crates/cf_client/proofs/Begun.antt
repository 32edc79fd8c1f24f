-- Before its first dial a client has nobody to ask, whether it follows or not.
use Rattle.std.proofs.Common.{◌≡◌, ℕ, List, [], true, false, refl}
use Rattle.std.proofs.lemmas.Bool.{both_ways}
use Rattle.cf_peer.specs.declared.mode.Mode.{Mode}
use Rattle.cf_peer.specs.Trail.{Part, is_connected, part_of}
use Rattle.cf_tracker.specs.Seen.{Seen}
use Rattle.cf_place.specs.declared.place.Place.{Place}
use Rattle.cf_place.specs.declared.place.Place.TheVariants.{Here, Lost}
use Rattle.cf_place.specs.Places.{Fits, PlacesStand, is_settled, place_at}
use Rattle.cf_client.specs.Settled.{AreEntered, AreSettled, IsAskedThrough}
use Rattle.cf_client.proofs.Settled.{asked_busy}

-- who isn't connected is to be asked nothing
off_settled : (mode : Mode) (place : Place) (part : Part) → is_connected part.trail ≡ false → Fits place part
    → is_settled mode place ≡ true
off_settled mode (Here peer) part off keeps = absurd (both_ways (is_connected part.trail) off keeps.holds.on)
off_settled mode (Lost loss) part off lost = refl

off_through : (place : Place) (part : Part) (s : Seen) (p : ℕ) → is_connected part.trail ≡ false → Fits place part
    → IsAskedThrough place s p
off_through (Here peer) part s p off keeps = absurd (both_ways (is_connected part.trail) off keeps.holds.on)
off_through (Lost loss) part s p off lost = asked_busy (Lost loss) s p refl

-- so it is settled in either mode
pub settled_begun : (mode : Mode) (places : List Place) (s : Seen) → PlacesStand places [] → AreEntered places s
    → AreSettled mode places s
settled_begun mode places s stand entered = record {
  each = λ p. off_settled mode (place_at places p) (part_of [] p) refl (stand.each p);
  through = λ p. off_through (place_at places p) (part_of [] p) s p refl (stand.each p);
  entered = entered;
}
