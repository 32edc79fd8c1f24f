use Rattle.std.proofs.Common.{◌≡◌, take}
use Rattle.std.specs.List.{sum_by}
use Rattle.cf_block.specs.Size.{capped}
use Rattle.cf_client.specs.Holding.{came_at}
use Rattle.cf_client.proofs.held.filters_at_all.Given as goal

abbrev pub invariant-loop-place : goal.invariant-loop-place
invariant-loop-place l = l.total ≡ capped (sum_by came_at (take l.place-index l.places))
