use Rattle.cf_network.proofs.Refusals.{KeptOrRisen}
use Rattle.cf_network.proofs.calls.calls_of.Given as goal

abbrev pub invariant-loop-name : goal.invariant-loop-name
invariant-loop-name g l = let k = g.K.Spawner in record {
  goes : (goal.iterator-loop-name g).can_next l.name-iterator;
  ends : (goal.iterator-loop-name g).is_finite l.name-iterator;
  kept : KeptOrRisen (k.refusals l.initial.spawner) (k.refusals l.spawner);
}
