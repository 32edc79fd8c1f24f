use Rattle.std.proofs.Common.{refl, arith}
use Rattle.std.proofs.Math.Logic.{∥∥₁_map}
use Rattle.cf_tracker.specs.Seen.{seen_of}
use Rattle.cf_place.specs.declared.place.Loss.TheVariants.{NotDialled}
use Rattle.cf_client.proofs.Standing.{refused_stand}
use Rattle.cf_hear.proofs.Tracking.{tracks_missed}
use Rattle.cf_tracker.specs.Tracker.{claims_of}
use Rattle.cf_place.specs.declared.place.Place.TheVariants.{Lost}
use Rattle.cf_client.proofs.Standing.{past_nobody}
use Rattle.cf_client.proofs.Settled.{settled_missed}
use Rattle.cf_client.proofs.Rights.{right_push}
use Rattle.cf_client.proofs.client.Client.not_dialled.Goals as goal

pub invariant_of-self-2-clause-settled : goal.invariant_of-self-2-clause-settled
invariant_of-self-2-clause-settled g c = λ alive.
    rw c.in_ok-push.ensures.items
    (settled_missed c.args.self.now.mode c.args.self.now.places.items (seen_of c.args.self.now.tracker) c.args.p.0 NotDialled c.requires.next (c.args.self.now.settled c.if-self.false))

pub invariant_of-self-2-clause-right : goal.invariant_of-self-2-clause-right
invariant_of-self-2-clause-right g c = λ alive.
    rw c.in_ok-push.ensures.items
    (∥∥₁_map (c.args.self.now.right c.if-self.false)
    (right_push c.args.self.now.places.items (claims_of c.args.self.now.tracker) (claims_of c.args.self.now.tracker) (Lost NotDialled) (λ q block. refl) tt))

pub returns-clause-reflects : goal.returns-clause-reflects
returns-clause-reflects g c = λ log reflects.
    let s = seen_of c.args.self.now.tracker in
    let off = past_nobody c.args.self.now.places.items log c.args.p.0 (omega (arith, c.requires.next)) reflects.places in
    record {
      alive = refl;
      places = rw c.in_ok-push.ensures.items (refused_stand c.args.self.now.places.items log c.args.p c.args.name.now c.requires.next reflects.places);
      tracks = tracks_missed s c.args.p c.args.name.now log off reflects.tracks;
      unexposed = reflects.unexposed;
    }

pub returns-clause-judged : goal.returns-clause-judged
returns-clause-judged g c = record { same = refl; kept = λ block hash. refl }
