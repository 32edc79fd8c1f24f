use Rattle.std.proofs.Common.{◌≡◌}
use Rattle.cf_conn.specs.Steps.{Steps}
use Rattle.cf_conn.specs.Window.{beyond, seen}
use Rattle.cf_walk.specs.Judging.{Strips}
use Rattle.cf_walk.specs.Striding.{StaysFew}
use Rattle.cf_walk.proofs.walk.only_zeros.Given as goal

abbrev pub invariant-loop-window : goal.invariant-loop-window
invariant-loop-window g l = record {
  strips : Strips (seen l.fn.window (g.S.Source.left l.fn.source)) (seen l.window (g.S.Source.left l.source));
  beyond : beyond l.window (g.S.Source.left l.source) ≡ beyond l.fn.window (g.S.Source.left l.fn.source);
  count : g.S.Source.faults l.source ≡ g.S.Source.faults l.fn.source;
  steps : Steps g.S.Source.reads l.fn.source l.source;
  few : StaysFew l.fn.window l.window;
}

abbrev pub decreases-loop-window : goal.decreases-loop-window
decreases-loop-window g l = l.window.room
