use Rattle.std.proofs.Common.{ℕ, ◌<◌, ◌≤◌, ◌-◌}
use Rattle.slab.specs.Slab.{get}
use Rattle.cf_headers.specs.Nodes.{StandsAt, StandTo, names_over}
use Rattle.cf_headers.proofs.standing.guide_for.Given as goal

abbrev pub invariant-loop-q : goal.invariant-loop-q
invariant-loop-q l = record {
  last : 0 < l.most → StandsAt (get l.pool.nodes) (names_over l.ways l.k l.guide) l.headers (l.most - 1);
  longest : (q many : ℕ) → q < l.q → StandTo (get l.pool.nodes) (names_over l.ways l.k q) l.headers many → many ≤ l.most;
}
