use Rattle.std.proofs.Common.{ℕ, ◌<◌, ◌≤◌}
use Rattle.slab.specs.Slab.{get}
use Rattle.cf_headers.specs.Nodes.{StandsAt}
use Rattle.cf_headers.proofs.standing.count_standing.Given as goal

abbrev pub invariant-loop-i : goal.invariant-loop-i
invariant-loop-i l = record {
  below : (j : ℕ) → l.from ≤ j → j < l.i → StandsAt (get l.pool.nodes) l.names l.headers j;
}
