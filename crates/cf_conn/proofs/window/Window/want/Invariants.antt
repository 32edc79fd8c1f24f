use Rattle.std.proofs.Common.{◌≡◌, ◌⊎◌, ◌+◌, ◌≤◌, ◌<◌, length}
use Rattle.cf_conn.specs.Source.{with_front}
use Rattle.cf_conn.specs.Steps.{Steps}
use Rattle.cf_conn.proofs.window.Window.want.Given as goal

abbrev pub invariant-loop-self : goal.invariant-loop-self
invariant-loop-self g l = record {
  same : with_front l.self.held (g.S.Source.left l.source) ≡ with_front l.fn.self.held (g.S.Source.left l.fn.source);
  bound : length l.self.held + l.self.room ≡ length l.fn.self.held + l.fn.self.room;
  count : g.S.Source.faults l.source ≡ g.S.Source.faults l.fn.source;
  steps : Steps g.S.Source.reads l.fn.source l.source;
  few : (length l.self.held ≤ length l.fn.self.held) ⊎ (length l.self.held < l.n + 65536);
}

abbrev pub decreases-loop-self : goal.decreases-loop-self
decreases-loop-self g l = l.self.room
