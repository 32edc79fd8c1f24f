use Rattle.std.proofs.Common.{◌≡◌, ◌++◌, map, drop}
use Rattle.cf_parallel.proofs.Unpacking.{head_of, bytes_of}
use Rattle.cf_parallel.proofs.packed.taken_apart.Given as goal

-- the heads and bytes so far, and those of the filters that are left
abbrev pub invariant-loop-job : goal.invariant-loop-job
invariant-loop-job l = record {
  heads : l.heads.items ++ map head_of (drop l.job-index l.jobs) ≡ map head_of l.jobs;
  bytes : l.bytes.items ++ bytes_of (drop l.job-index l.jobs) ≡ bytes_of l.jobs;
}
