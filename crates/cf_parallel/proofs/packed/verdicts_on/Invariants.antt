use Rattle.std.proofs.Common.{◌≡◌, ◌++◌, map, drop, length}
use Rattle.cf_match.specs.Verdicts.{verdict_of}
use Rattle.cf_parallel.specs.Packing.{unpacked}
use Rattle.cf_parallel.proofs.packed.verdicts_on.Given as goal

-- the verdicts so far, and those of the filters that are left; the scratch stays as long as the list of scripts
abbrev pub invariant-loop-head : goal.invariant-loop-head
invariant-loop-head l = record {
  so_far : l.verdicts.items ++ map (verdict_of l.watch) (unpacked (drop l.head-index l.heads) l.left) ≡ map (verdict_of l.watch) (unpacked l.heads l.bytes);
  same : length l.scratch.items ≡ length l.watch;
}
