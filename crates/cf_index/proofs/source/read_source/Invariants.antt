use Rattle.std.proofs.Common.{◌≡◌, ◌-◌, ℕ, List, Some}
use Rattle.cf_conn.specs.Steps.{Steps}
use Rattle.cf_headers.specs.Chain.{height_limit}
use Rattle.cf_walk.specs.Judging.{StandsOn}
use Rattle.cf_walk.specs.Striding.{IsWalking}
use Rattle.cf_index.proofs.source.read_source.Given as goal

abbrev pub invariant-loop-block : goal.invariant-loop-block
invariant-loop-block g l = record {
  stands : StandsOn l.walk.judge l.chain;
  walks : (bytes : List ℕ) → g.S.Source.left l.fn.source ≡ Some bytes → IsWalking bytes l.walk (g.S.Source.left l.source) l.chain;
  count : g.S.Source.faults l.source ≡ g.S.Source.faults l.fn.source;
  steps : Steps g.S.Source.reads l.fn.source l.source;
}

abbrev pub decreases-loop-block : goal.decreases-loop-block
decreases-loop-block g l = height_limit - l.walk.judge.height
