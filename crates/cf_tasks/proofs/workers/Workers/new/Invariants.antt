use Rattle.std.proofs.Common.{◌≤◌, vec_len, vec_capacity}
use Rattle.cf_tasks.specs.Starting.{ArePut}
use Rattle.cf_tasks.proofs.Counting.{AllOrRisen}
use Rattle.cf_tasks.proofs.workers.Workers.new.Given as goal

abbrev pub invariant-loop : goal.invariant-loop
invariant-loop g l = let k = g.K.Spawner in record {
  few : vec_len l.ready ≤ l.counter;
  within : l.counter ≤ l.fn.count;
  room : l.fn.count ≤ vec_capacity l.ready;
  cause : AllOrRisen (vec_len l.ready) l.counter (k.refusals l.initial.spawner) (k.refusals l.spawner);
  puts : ArePut k.moves l.counter l.initial.spawner l.spawner;
}
