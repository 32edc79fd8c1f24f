use Rattle.std.proofs.Common.{◌≤◌, ◌∷◌, ℕ, List, length, refl, ap, arith}
use Rattle.std.proofs.Math.Logic.{∥∥₁_map}
use Rattle.cf_wires.specs.declared.event.Event.TheVariants.{Dialled}
use Rattle.cf_peer.specs.Acts.{bytes_of}
use Rattle.cf_tracker.specs.Seen.{seen_of}
use Rattle.cf_client.proofs.Standing.{called_goes}
use Rattle.cf_hear.proofs.Exposing.{unexposed_put}
use Rattle.cf_hear.proofs.Tracking.{none_open, tracks_dialled, tracks_sent, put_entered, none_claimed}
use Rattle.cf_tracker.specs.Tracker.{claims_of, watch_of}
use Rattle.cf_peer.specs.Peer.{called_peer}
use Rattle.cf_place.specs.declared.place.Place.TheVariants.{Here}
use Rattle.cf_peer.specs.Trail.{trail}
use Rattle.cf_sync.specs.Fetching.{Rule}
use Rattle.cf_client.proofs.Acting.{version_asks, version_only}
use Rattle.cf_client.proofs.Settled.{settled_called}
use Rattle.cf_client.proofs.Spelled.{spelled_bytes}
use Rattle.cf_client.proofs.Standing.{past_nobody}
use Rattle.cf_client.proofs.Rights.{right_push}
use Rattle.cf_client.proofs.client.Client.dialled.Goals as goal

pub invariant_of-self-2-clause-settled : goal.invariant_of-self-2-clause-settled
invariant_of-self-2-clause-settled g c = λ alive.
    let before = seen_of c.args.self.now.tracker in
    let now = seen_of c.enter.new.self in
    rw (c.in_ok-push-2.ensures.items, c.called.ensures)
    (settled_called c.args.self.now.mode c.args.self.now.places.items before now c.args.p c.requires.next
    (record { chains = c.in_ok-enter.ensures.ok; stays = c.in_ok-enter.ensures.stays }) (c.args.self.now.settled c.if-self.false))

pub invariant_of-self-2-clause-right : goal.invariant_of-self-2-clause-right
invariant_of-self-2-clause-right g c = λ alive.
    rw (c.in_ok-push-2.ensures.items, c.called.ensures)
    (∥∥₁_map (c.args.self.now.right c.if-self.false)
    (right_push c.args.self.now.places.items (claims_of c.args.self.now.tracker) (claims_of c.enter.new.self) (Here called_peer) c.in_ok-enter.ensures.stays.claims tt))

pub returns-clause-answers : goal.returns-clause-answers
returns-clause-answers g c = λ log reflects.
    let before = seen_of c.args.self.now.tracker in
    let now = seen_of c.enter.new.self in
    let m = c.in_ok-greeting.field-0 in
    let le : length c.args.self.now.places.items ≤ c.args.p.0 = omega (arith, c.requires.next) in
    let off = past_nobody c.args.self.now.places.items log c.args.p.0 le reflects.places in
    let goes = called_goes {rule = record { watch = watch_of c.enter.new.self; mode = c.args.self.now.mode }} c.args.self.now.places.items log c.args.p c.args.name.now m c.requires.next reflects.places c.in_ok-greeting.ensures.greeting in
    let put = put_entered before now c.args.p c.in_ok-enter.ensures.ok (none_claimed before log c.args.p.0 off reflects.tracks)
    (none_open before log c.args.p.0 off reflects.tracks) c.in_ok-enter.ensures.stays in
    let next = Dialled c.args.p c.args.name.now ∷ log in
    let asks = version_asks m (trail next c.args.p.0) c.in_ok-greeting.ensures.greeting.ours in
    let tracks = tracks_sent now c.args.p (bytes_of m) m next (spelled_bytes m c.in_ok-greeting.ensures.greeting.sendable) asks.0 asks.1 (version_only m c.in_ok-greeting.ensures.greeting.ours) (tracks_dialled before now c.args.p c.args.name.now log put reflects.tracks) in
    record {
      stand = record {
        alive = refl;
        places = rw (c.in_ok-push-2.ensures.items, c.in_ok-push.ensures.items, c.new-acts.ensures.items, c.called.ensures) goes.stand;
        tracks = rw (c.in_ok-push.ensures.items, c.new-acts.ensures.items) tracks;
        unexposed = unexposed_put before now c.args.p.0 put reflects.unexposed;
      };
      allowed = rw (c.in_ok-push.ensures.items, c.new-acts.ensures.items) goes.allowed;
    }

pub returns-clause-judged : goal.returns-clause-judged
returns-clause-judged g c = record { same = refl; kept = c.in_ok-enter.ensures.stays.verdicts }

pub returns-clause-rule : goal.returns-clause-rule
returns-clause-rule g c =
    let by : List (List ℕ) → Rule = λ watch. record { watch = watch; mode = c.args.self.now.mode } in
    ap by c.in_ok-enter.ensures.stays.watch
