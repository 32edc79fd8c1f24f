use Rattle.std.proofs.Common.{◌≤◌, ◌-◌, length}
use Rattle.cf_index.specs.Bare.{AreBuilt}
use Rattle.cf_index.proofs.filters.all_filters.Given as goal

abbrev pub invariant-loop-count : goal.invariant-loop-count
invariant-loop-count g l = record {
  built : AreBuilt l.blocks l.spent l.count l.headed.filters.items l.headed.last.0 l.bare.items;
  within : l.count ≤ length l.blocks;
}

abbrev pub decreases-loop-count : goal.decreases-loop-count
decreases-loop-count g l = length l.blocks - l.count
