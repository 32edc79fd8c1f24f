use Rattle.std.proofs.Common.{◌≡◌, [], length}
use Rattle.cf_link.specs.Links.{told_now}
use Rattle.cf_link.specs.Tasks.{GivesBack}
use Rattle.cf_link.proofs.serving.finish.Given as goal

abbrev pub invariant-loop-line : goal.invariant-loop-line
invariant-loop-line g l = let k = g.L.Link in let d = g.L.Conn in record {
  gives : GivesBack (told_now d.Source.left d.Sink.written d.Source.ended d.Source.faults d.Sink.faults) g.S.Service.serves l.fn.line.tasks l.line.tasks (k.given l.fn.link) (k.given l.link) (k.owed l.fn.link) (k.owed l.link);
  all : l.line.flags ≡ [] → l.line.tasks ≡ [];
  faults : k.faults l.link ≡ k.faults l.fn.link;
  addresses : k.addresses l.link ≡ k.addresses l.fn.link;
  conns : k.conns l.link ≡ k.conns l.fn.link;
  accepted : k.accepted l.link ≡ k.accepted l.fn.link;
}

abbrev pub decreases-loop-line : goal.decreases-loop-line
decreases-loop-line g l = length l.line.flags
