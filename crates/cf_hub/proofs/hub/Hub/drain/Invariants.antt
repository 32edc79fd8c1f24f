use Rattle.cf_hub.specs.Stays.{OnlyPasses}
use Rattle.cf_hub.proofs.hub.Hub.drain.Given as goal

abbrev pub invariant-loop : goal.invariant-loop
invariant-loop g l = record { stays : OnlyPasses l.initial.self l.self }
