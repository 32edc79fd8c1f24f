use Rattle.std.proofs.Common.{◌≡◌, ◌-◌, true, length}
use Rattle.cf_link.proofs.Sweeps.{Looked}
use Rattle.cf_link.proofs.line.Line.sweep.Given as goal

abbrev pub invariant-loop-i : goal.invariant-loop-i
invariant-loop-i g l = record {
  tasks : l.self.tasks ≡ l.initial.self.tasks;
  looked : Looked g.F.Flag.tells l.initial.self.flags l.self.flags l.i;
  room : l.initial.self.room ≡ true → l.self.room ≡ true;
  refusals : g.K.Spawner.refusals l.spawner ≡ g.K.Spawner.refusals l.initial.spawner;
}

abbrev pub decreases-loop-i : goal.decreases-loop-i
decreases-loop-i g l = length l.self.flags - l.i
