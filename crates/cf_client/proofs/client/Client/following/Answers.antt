use Rattle.cf_tracker.specs.Seen.{seen_of}
use Rattle.cf_peer.specs.declared.mode.Mode.TheVariants.{Following}
use Rattle.cf_client.proofs.Begun.{settled_begun}
use Rattle.cf_client.proofs.client.Client.following.Goals as goal

pub invariant_of-client-clause-settled : goal.invariant_of-client-clause-settled
invariant_of-client-clause-settled g c = λ alive.
    settled_begun Following c.args.self.places.items (seen_of c.args.self.tracker) c.requires.untouched.places
    (c.args.self.settled c.requires.untouched.alive).entered
