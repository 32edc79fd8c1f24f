use Rattle.std.proofs.Common.{◌≡◌, ◌≤◌, drop, length}
use Rattle.cf_parallel.specs.Packing.{unpacked}
use Rattle.cf_parallel.proofs.packed.are_these.Given as goal

-- where those that are left are the same, all are
abbrev pub invariant-loop-i : goal.invariant-loop-i
invariant-loop-i l = record {
  so_far : unpacked (drop l.i l.heads) l.left ≡ drop l.i l.jobs → unpacked l.heads l.bytes ≡ l.jobs;
  lengths : length l.heads ≡ length l.jobs;
  within : l.i ≤ length l.jobs;
}
