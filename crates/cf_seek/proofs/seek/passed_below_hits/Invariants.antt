use Rattle.std.proofs.Common.{◌<◌, ◌≤◌}
use Rattle.cf_headers.specs.Store.{own_of}
use Rattle.cf_seek.specs.Seeking.{ArePassedHits, IsBelowAHit}
use Rattle.cf_seek.proofs.seek.passed_below_hits.Given as goal

abbrev pub invariant-loop-i : goal.invariant-loop-i
invariant-loop-i g l = record {
  low : l.passed ≤ l.fn.passed;
  apart : ArePassedHits (own_of (g.H.HeaderStore.chain l.store) l.p) l.passed l.jobs l.verdicts l.i;
  tight : l.passed < l.fn.passed → IsBelowAHit (own_of (g.H.HeaderStore.chain l.store) l.p) l.passed l.jobs l.verdicts;
}
