use Rattle.std.proofs.Common.{◌≡◌}
use Rattle.cf_client.specs.Holding.{most_at}
use Rattle.cf_client.proofs.held.most_bytes.Given as goal

abbrev pub invariant-loop-place : goal.invariant-loop-place
invariant-loop-place l = l.most ≡ most_at l.places l.place-index
