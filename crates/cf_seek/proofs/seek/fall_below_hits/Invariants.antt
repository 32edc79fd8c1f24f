use Rattle.std.proofs.Common.{◌≡◌, ℕ, ◌<◌, ◌≤◌}
use Rattle.cf_seek.specs.Cursors.{marks_at}
use Rattle.cf_seek.specs.Tracking.{IsFallen}
use Rattle.cf_seek.proofs.seek.fall_below_hits.Given as goal

abbrev pub invariant-loop-q : goal.invariant-loop-q
invariant-loop-q g l = record {
  done : (q : ℕ) → q < l.q → IsFallen (g.H.HeaderStore.chain l.store q) (marks_at l.fn.cursors q) (marks_at l.cursors q) l.jobs l.verdicts;
  left : (q : ℕ) → l.q ≤ q → marks_at l.cursors q ≡ marks_at l.fn.cursors q;
}
