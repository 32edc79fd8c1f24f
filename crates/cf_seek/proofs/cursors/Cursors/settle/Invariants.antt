use Rattle.std.proofs.Common.{◌≡◌, ℕ, ◌<◌, ◌≤◌}
use Rattle.cf_seek.specs.Cursors.{marks_at, settled}
use Rattle.cf_seek.proofs.cursors.Cursors.settle.Given as goal

abbrev pub invariant-loop-marks : goal.invariant-loop-marks
invariant-loop-marks l = record {
  done : (q : ℕ) → q < l.marks-index → marks_at l.marks-items q ≡ settled (marks_at l.fn.self q);
  left : (q : ℕ) → l.marks-index ≤ q → marks_at l.marks-items q ≡ marks_at l.fn.self q;
}
