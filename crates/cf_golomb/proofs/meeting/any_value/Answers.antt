use Rattle.std.proofs.Common.{◌≡◌, ◌+◌, ◌-◌, ◌*◌, arith, ap, sym, subst, ◌∙◌}
use Rattle.std.specs.Prelude.{◌||◌}
use Rattle.cf_golomb.specs.Code.{values_at}
use Rattle.cf_golomb.specs.Meets.{IsAscending, hits, skip_below, first_is, seen_by}
use Rattle.cf_golomb.proofs.MeetLemmas.{meets_more, meets_fault, meets_done, skip_ascending}
use Rattle.cf_golomb.proofs.meeting.any_value.Goals as goal

pub returns-in-Err : goal.returns-in-Err
returns-in-Err g c =
    c.loop-i.invariant.reads
    ∙ meets_fault (λ vs. c.loop-i.hit || hits c.loop-i.rest.now vs) (c.args.n * 784931) (c.args.n - c.loop-i._i) c.loop-i.before _ c.in-Err.e c.in-Err.ensures.exact (omega arith)

pub loop-i-preserved : goal.loop-i-preserved
loop-i-preserved g c =
    let left : skip_below c.in-Ok.v c.loop-i.rest.now ≡ c.skip_below-rest.result.now = sym c.skip_below-rest.ensures in
    let first : first_is c.in-Ok.v (skip_below c.in-Ok.v c.loop-i.rest.now) ≡ c.begins_with-hit.result = ap (first_is c.in-Ok.v) left ∙ sym c.begins_with-hit.ensures in
    record {
      reads = c.loop-i.invariant.reads
          ∙ meets_more (c.args.n * 784931) (c.args.n - c.loop-i._i) (c.args.n - (c.loop-i._i + 1)) c.loop-i.before c.in-Ok.v c.loop-i.hit c.loop-i.rest.now _ _ c.loop-i.invariant.sorted c.in-Ok.ensures.exact (omega arith)
          ∙ (λ i. seen_by (λ vs. (c.loop-i.hit || first i) || hits (left i) vs) (values_at (c.args.n * 784931) (c.args.n - (c.loop-i._i + 1)) c.in-Ok.v (g.B.BitSource.bits c.value.new.source)));
      sorted = subst (IsAscending 0) left (skip_ascending c.in-Ok.v 0 c.loop-i.rest.now c.loop-i.invariant.sorted);
      small = omega (arith, c.in-Ok.ensures.small, c.requires.few);
    }

pub returns : goal.returns
returns g c =
    c.loop-i.invariant.reads ∙ meets_done (c.args.n * 784931) (c.args.n - c.loop-i._i) c.loop-i.before c.loop-i.hit c.loop-i.rest.now _ (omega arith)
