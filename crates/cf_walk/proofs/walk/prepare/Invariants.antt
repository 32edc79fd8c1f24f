use Rattle.std.proofs.Common.{◌≡◌, ◌+◌, length}
use Rattle.cf_conn.specs.Source.{with_front}
use Rattle.cf_conn.specs.Steps.{Steps}
use Rattle.cf_walk.specs.Striding.{StaysFew}
use Rattle.cf_walk.proofs.walk.prepare.Given as goal

abbrev pub invariant-loop-held : goal.invariant-loop-held
invariant-loop-held g l = record {
  same : with_front l.window.held (g.S.Source.left l.source) ≡ with_front l.fn.window.held (g.S.Source.left l.fn.source);
  bound : length l.window.held + l.window.room ≡ length l.fn.window.held + l.fn.window.room;
  count : g.S.Source.faults l.source ≡ g.S.Source.faults l.fn.source;
  steps : Steps g.S.Source.reads l.fn.source l.source;
  few : StaysFew l.fn.window l.window;
}

abbrev pub decreases-loop-held : goal.decreases-loop-held
decreases-loop-held g l = l.window.room
