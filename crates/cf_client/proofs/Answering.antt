-- What a desk with a client's places stands for, and what the client has and answers once the places are its own again.
use Rattle.std.proofs.Common.{◌≡◌, List, [], length, false, sym, subst, arith}
use Rattle.std.proofs.lemmas.List.{with_items_is}
use Rattle.std.specs.Global.{Global}
use Rattle.std.specs.Prelude.{Vec}
use Rattle.std.specs.Vec.{with_items}
use Rattle.cf_headers.specs.declared.store.HeaderStore.{Ghosts}
use Rattle.cf_match.specs.declared.matcher.Matcher.{Ghosts as Judges}
use Rattle.cf_peer.specs.declared.act.Act.{Act}
use Rattle.cf_peer.specs.declared.mode.Mode.{Mode}
use Rattle.cf_wires.specs.Log.{Log}
use Rattle.cf_place.specs.declared.place.Place.{Place}
use Rattle.cf_place.specs.Places.{PlacesStand, after}
use Rattle.cf_tracker.specs.Seen.{Seen}
use Rattle.cf_client.specs.declared.client.Client.{Client}
use Rattle.cf_client.specs.Settled.{AreRight, AreSettled}
use Rattle.cf_client.specs.Stands.{Answers, Reflects, seen_by}
use Rattle.cf_client.specs.Steps.{Desk, IsInOrder, Stands}
use Rattle.cf_client.proofs.Steps.{in_order, stands_start}

-- the places of a client that reflects a log, and no acts yet, stand for that log
pub stands_lent : {H M : Type 0} {g : Ghosts H} {j : Judges M} (c : Client H M g j) (places : List Place) (acts : List Act) (log : Log)
    → places ≡ c.places.items → acts ≡ [] → Reflects c log
    → Stands c.mode (record { places = places; seen = seen_by c; acts = acts }) log
stands_lent c places acts log same none reflects =
    stands_start places (seen_by c) acts log none
    (subst (λ (xs : List Place). PlacesStand xs log) (sym same) reflects.places) reflects.tracks reflects.unexposed

-- between two calls they are in order
pub order_lent : {H M : Type 0} {g : Ghosts H} {j : Judges M} (c : Client H M g j) (places : List Place) (acts : List Act)
    → c.dead ≡ false → places ≡ c.places.items → IsInOrder (record { places = places; seen = seen_by c; acts = acts })
order_lent c places acts alive same =
    subst (λ (xs : List Place). IsInOrder (record { places = xs; seen = seen_by c; acts = acts })) (sym same)
    (in_order c.places.items (seen_by c) acts (omega (arith, c.few, c.places.ok.0)) (c.settled alive) (c.right alive))

-- a client with the places for which a desk stands answers with its acts
pub answers_back : {H M : Type 0} {g : Ghosts H} {j : Judges M} (c : Client H M g j) (places : List Place) (acts : List Act) (log : Log)
    → c.dead ≡ false → c.places.items ≡ places
    → Stands c.mode (record { places = places; seen = seen_by c; acts = acts }) log → Answers c acts log
answers_back c places acts log alive whole stood = record {
  stand = record {
    alive = alive;
    places = subst (λ (xs : List Place). PlacesStand xs (after acts log)) (sym whole) stood.goes.stand;
    tracks = stood.tracks;
    unexposed = stood.unexposed;
  };
  allowed = stood.goes.allowed;
}

-- places that come back settled are so as the client's own
pub settled_back : {mode : Mode} {places : List Place} {seen : Seen} (kept : Vec Place Global) → AreSettled mode places seen
    → length places ≡ kept.len → AreSettled mode (with_items kept places).items seen
settled_back {mode = mode} {places = places} {seen = seen} kept settled many =
    subst (λ (xs : List Place). AreSettled mode xs seen) (sym (with_items_is kept places many)) settled

-- and what is open to each agrees with what it claims
pub right_back : {d : Desk} (kept : Vec Place Global) → IsInOrder d → length d.places ≡ kept.len
    → ∥ AreRight (with_items kept d.places).items d.seen.claims ∥₁
right_back {d = d} kept order many =
    subst (λ (xs : List Place). ∥ AreRight xs d.seen.claims ∥₁) (sym (with_items_is kept d.places many)) ∣ order.right ∣₁
