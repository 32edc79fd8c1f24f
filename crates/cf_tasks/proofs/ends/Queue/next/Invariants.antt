use Rattle.std.proofs.Common.{◌≡◌}
use Rattle.crossbeam_channel.specs.Claims.{view, IsSeatAt}
use Rattle.crossbeam_channel.specs.Ends.{sends_on, receives_on}
use Rattle.cf_tasks.proofs.ends.Queue.next.Given as goal

abbrev pub invariant-loop : goal.invariant-loop
invariant-loop g l = record {
  seated : IsSeatAt (sends_on l.self.line) l.self.seat;
  one : receives_on l.self.front ≡ sends_on l.self.line;
  ring : sends_on l.self.line ≡ sends_on l.initial.self.line;
  same : view l.self.seat ≡ view l.initial.self.seat;
  made : l.self.made ≡ l.initial.self.made;
}
