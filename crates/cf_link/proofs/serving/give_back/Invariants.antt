use Rattle.std.proofs.Common.{◌≡◌, length}
use Rattle.cf_link.specs.Links.{told_now}
use Rattle.cf_link.specs.Tasks.{GivesBack}
use Rattle.cf_link.proofs.serving.give_back.Given as goal

abbrev pub invariant-loop-ended : goal.invariant-loop-ended
invariant-loop-ended g l = let k = g.L.Link in let d = g.L.Conn in record {
  gives : GivesBack (told_now d.Source.left d.Sink.written d.Source.ended d.Source.faults d.Sink.faults) g.S.Service.serves l.initial.line.tasks l.line.tasks (k.given l.initial.link) (k.given l.link) (k.owed l.initial.link) (k.owed l.link);
  faults : k.faults l.link ≡ k.faults l.initial.link;
  addresses : k.addresses l.link ≡ k.addresses l.initial.link;
  conns : k.conns l.link ≡ k.conns l.initial.link;
  accepted : k.accepted l.link ≡ k.accepted l.initial.link;
  flags : l.line.flags ≡ l.initial.line.flags;
}

abbrev pub decreases-loop-ended : goal.decreases-loop-ended
decreases-loop-ended g l = length l.line.tasks
