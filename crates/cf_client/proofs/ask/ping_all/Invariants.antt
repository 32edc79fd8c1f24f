use Rattle.std.proofs.Common.{◌≡◌, ℕ, ◌<◌, true}
use Rattle.cf_peer.specs.declared.mode.Mode.TheVariants.{Following}
use Rattle.cf_place.specs.Places.{place_at, is_idle}
use Rattle.cf_client.specs.Steps.{desk, HasPingedOut, Moves, Ticked}
use Rattle.cf_client.proofs.Ordering.{PingsBelow}
use Rattle.cf_client.proofs.ask.ping_all.Given as goal

abbrev pub invariant-loop-i : goal.invariant-loop-i
invariant-loop-i g l = record {
  moves : Moves Following Ticked (desk l.tracker l.fn.places l.fn.acts.items) (desk l.tracker l.places l.acts.items);
  done : (p : ℕ) → p < l.i → is_idle (place_at l.places p) ≡ true → HasPingedOut (place_at l.places p);
  same : (p : ℕ) → is_idle (place_at l.places p) ≡ true → place_at l.places p ≡ place_at l.fn.places p;
  pings : PingsBelow l.i l.fn.acts.items l.acts.items;
}
