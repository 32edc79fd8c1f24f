use Rattle.std.proofs.Common.{◌≡◌, ◌≤◌, ◌*◌, ◌-◌, ◌^◌}
use Rattle.std.specs.Prelude.{◌||◌}
use Rattle.cf_golomb.specs.Code.{values_at}
use Rattle.cf_golomb.specs.Meets.{IsAscending, hits, seen_by}
use Rattle.cf_golomb.proofs.meeting.any_value.Given as goal

-- what was met so far, and what the queries that are left meet among the values that are left
abbrev pub invariant-loop-i : goal.invariant-loop-i
invariant-loop-i g l = record {
  reads : seen_by (hits l.fn.queries) (values_at (l.n * 784931) l.n 0 (g.B.BitSource.bits l.fn.source)) ≡ seen_by (λ vs. l.hit || hits l.rest vs) (values_at (l.n * 784931) (l.n - l._i) l.before (g.B.BitSource.bits l.source));
  sorted : IsAscending 0 l.rest;
  small : l.before ≤ 2 ^ 45;
}
