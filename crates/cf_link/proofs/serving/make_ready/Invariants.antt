use Rattle.std.proofs.Common.{◌≡◌}
use Rattle.cf_link.specs.Links.{told_now}
use Rattle.cf_link.specs.Lines.{Stay}
use Rattle.cf_link.specs.Tasks.{GivesBack}
use Rattle.cf_link.proofs.serving.make_ready.Given as goal

abbrev pub invariant-loop : goal.invariant-loop
invariant-loop g l = let k = g.L.Link in let d = g.L.Conn in record {
  gives : GivesBack (told_now d.Source.left d.Sink.written d.Source.ended d.Source.faults d.Sink.faults) g.S.Service.serves l.initial.line.tasks l.line.tasks (k.given l.initial.link) (k.given l.link) (k.owed l.initial.link) (k.owed l.link);
  stay : Stay g.F.Flag.tells l.initial.line.flags l.line.flags;
  faults : k.faults l.link ≡ k.faults l.initial.link;
  addresses : k.addresses l.link ≡ k.addresses l.initial.link;
  conns : k.conns l.link ≡ k.conns l.initial.link;
  accepted : k.accepted l.link ≡ k.accepted l.initial.link;
}
