use Rattle.std.proofs.Common.{◌≡◌}
use Rattle.crossbeam_channel.specs.Claims.{view}
use Rattle.crossbeam_channel.specs.Ends.{sends_on}
use Rattle.cf_outside.proofs.Readers.{SoFar}
use Rattle.cf_outside.proofs.reader.ReaderTask.run.Given as goal

abbrev pub invariant-loop : goal.invariant-loop
invariant-loop g l = let s = g.S.Source in record {
  ring : sends_on l.sender.line ≡ sends_on l.fn.self.sender.line;
  number : l.sender.number ≡ l.fn.self.sender.number;
  returned : l.sender.returned ≡ l.fn.self.sender.returned;
  so_far : SoFar s.left s.faults s.ended l.fn.self.source (view l.sender.seat).sent l.source;
}
