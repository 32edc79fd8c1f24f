use Rattle.cf_hub.specs.Stays.{OnlyShuts}
use Rattle.cf_hub.proofs.Opened.{FirstShut}
use Rattle.cf_hub.proofs.hub.Hub.shut_all.Given as goal

abbrev pub invariant-loop-p : goal.invariant-loop-p
invariant-loop-p g l = record {
  stays : OnlyShuts g.D.Write.Sink.written g.D.Write.Sink.faults l.initial.self l.self;
  shut : FirstShut g.D.Write.Writer.was_shut l.p l.self.writers.items;
}
