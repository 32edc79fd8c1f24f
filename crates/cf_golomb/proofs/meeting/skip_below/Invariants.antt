use Rattle.std.proofs.Common.{◌≡◌, length}
use Rattle.cf_golomb.specs.Meets.{skip_below}
use Rattle.cf_golomb.proofs.meeting.skip_below.Given as goal

-- those that are passed over are below v
abbrev pub invariant-loop-rest : goal.invariant-loop-rest
invariant-loop-rest l = skip_below l.v l.fn.queries ≡ skip_below l.v l.rest

abbrev pub decreases-loop-rest : goal.decreases-loop-rest
decreases-loop-rest l = length l.rest
