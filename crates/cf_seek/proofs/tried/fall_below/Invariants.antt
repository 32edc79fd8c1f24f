use Rattle.std.proofs.Common.{◌≡◌, ℕ, ◌<◌, ◌≤◌}
use Rattle.cf_seek.specs.Tried.{tried_at, tried_under}
use Rattle.cf_seek.proofs.tried.fall_below.Given as goal

abbrev pub invariant-loop-q : goal.invariant-loop-q
invariant-loop-q g l = record {
  done : (q : ℕ) → q < l.q → tried_at l.tried q
      ≡ tried_under (g.H.HeaderStore.chain l.store q) l.block.0 (tried_at l.fn.tried q);
  left : (q : ℕ) → l.q ≤ q → tried_at l.tried q ≡ tried_at l.fn.tried q;
}
