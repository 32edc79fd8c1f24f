use Rattle.std.proofs.Common.{◌≡◌, ℕ, ◌+◌, ◌-◌, ◌*◌, ◌^◌, ◌<◌, ◌≤◌}
use Rattle.cf_proof.specs.Tree.{height_within}
use Rattle.cf_proof.proofs.walking.height_of.Given as goal

abbrev pub invariant-loop-n : goal.invariant-loop-n
invariant-loop-n l = record {
  value : height_within (l.total - l.height) l.n + l.height ≡ height_within l.total l.total;
  fits : l.n ≤ l.total - l.height;
  low : l.height ≤ 15;
  there : (k : ℕ) → k < l.n → k * 2 ^ l.height < l.total;
}

abbrev pub decreases-loop-n : goal.decreases-loop-n
decreases-loop-n l = l.n
