use Rattle.std.proofs.Common.{◌≡◌, ◌≤◌, ◌-◌, ◌^◌, min, true}
use Rattle.cf_link.specs.Lines.{Stay}
use Rattle.cf_link.proofs.serving.start_later.Given as goal

abbrev pub invariant-loop : goal.invariant-loop
invariant-loop g l = let k = g.L.Link in record {
  tasks : l.line.tasks ≡ l.initial.line.tasks;
  next : l.next ≡ l.initial.next;
  room : l.line.room ≡ true;
  stay : Stay g.F.Flag.tells l.initial.line.flags l.line.flags;
  refusals : min (g.K.Spawner.refusals l.initial.spawner) (2 ^ 64 - 1) ≤ g.K.Spawner.refusals l.spawner;
  count : l.counter ≤ g.K.Spawner.refusals l.spawner;
  faults : k.faults l.link ≡ k.faults l.initial.link;
  addresses : k.addresses l.link ≡ k.addresses l.initial.link;
  conns : k.conns l.link ≡ k.conns l.initial.link;
  accepted : k.accepted l.link ≡ k.accepted l.initial.link;
  owed : k.owed l.link ≡ k.owed l.initial.link;
  given : k.given l.link ≡ k.given l.initial.link;
}
