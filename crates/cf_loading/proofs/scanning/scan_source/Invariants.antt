use Rattle.std.proofs.Common.{◌≡◌, ◌-◌}
use Rattle.cf_headers.specs.Chain.{height_limit}
use Rattle.cf_conn.specs.Steps.{Steps}
use Rattle.cf_loading.specs.Scanning.{IsOnTheWay}
use Rattle.cf_loading.proofs.scanning.scan_source.Given as goal

abbrev pub invariant-loop-block : goal.invariant-loop-block
invariant-loop-block g l = record {
  way : IsOnTheWay l.watch l.walk l.ledger (g.S.Source.left l.fn.source) (g.S.Source.left l.source);
  count : g.S.Source.faults l.source ≡ g.S.Source.faults l.fn.source;
  steps : Steps g.S.Source.reads l.fn.source l.source;
}

abbrev pub decreases-loop-block : goal.decreases-loop-block
decreases-loop-block g l = height_limit - l.walk.judge.height
