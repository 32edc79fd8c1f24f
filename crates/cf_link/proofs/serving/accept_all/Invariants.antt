use Rattle.std.proofs.Common.{◌≡◌, ◌+◌}
use Rattle.cf_link.specs.Links.{told_now}
use Rattle.cf_link.specs.Tasks.{Halfway}
use Rattle.cf_link.proofs.serving.accept_all.Given as goal

abbrev pub invariant-loop : goal.invariant-loop
invariant-loop g l = let k = g.L.Link in let d = g.L.Conn in record {
  halfway : Halfway (told_now d.Source.left d.Sink.written d.Source.ended d.Source.faults d.Sink.faults) g.S.Service.serves l.service l.line.tasks (k.conns l.initial.link) (k.conns l.link)
      (k.given l.initial.link) (k.given l.link) (k.accepted l.initial.link) (k.accepted l.link) (k.owed l.initial.link) (k.owed l.link);
  count : k.accepted l.link ≡ k.accepted l.initial.link + l.counter;
  faults : k.faults l.link ≡ k.faults l.initial.link;
  addresses : k.addresses l.link ≡ k.addresses l.initial.link;
}
