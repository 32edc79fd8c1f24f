use Rattle.std.proofs.Common.{◌≡◌}
use Rattle.crossbeam_channel.specs.Claims.{view}
use Rattle.cf_hub.specs.Gives.{given_of}
use Rattle.cf_hub.specs.Stays.{OnlyPasses}
use Rattle.cf_hub.proofs.hub.HubWires.next.Given as goal

abbrev pub invariant-loop : goal.invariant-loop
invariant-loop g l = record {
  stays : OnlyPasses l.initial.self l.self;
  given : given_of (view l.self.queue.seat).got ≡ given_of (view l.initial.self.queue.seat).got;
}
