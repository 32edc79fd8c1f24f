use Rattle.std.proofs.Common.{◌≡◌, ◌<◌, ◌≤◌, ◌+◌, ◌-◌, ◌⊎◌, vec_len, vec_capacity}
use Rattle.cf_bytes.specs.Outside.{HasRisen}
use Rattle.cf_tasks.specs.Starting.{ArePut}
use Rattle.cf_parallel.proofs.parallel.Parallel.with_gate.Given as goal

-- of the threads that were tried each was started, and no start was refused; or one was
abbrev pub invariant-loop : goal.invariant-loop
invariant-loop g l = let refusals = g.K.Spawner.refusals in record {
  few : vec_len l.hands < l.counter;
  within : l.counter ≤ l.workers-2;
  room : l.workers-2 ≤ vec_capacity l.hands + 1;
  cause : ((vec_len l.hands + 1 ≡ l.counter) × (refusals l.spawner ≡ refusals l.initial.spawner)) ⊎ HasRisen (refusals l.initial.spawner) (refusals l.spawner);
  puts : ArePut g.K.Spawner.moves (l.counter - 1) l.initial.spawner l.spawner;
}
