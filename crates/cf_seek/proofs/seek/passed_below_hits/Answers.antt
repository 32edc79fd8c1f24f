use Rattle.std.proofs.Common.{arith, ◌+◌, ℕ, sym, subst, ◌∙◌}
use Rattle.cf_headers.specs.Chain.{Chain}
use Rattle.cf_headers.specs.Store.{own_of}
use Rattle.cf_seek.specs.Seeking.{ArePassedHits, IsBelowAHit}
use Rattle.cf_seek.proofs.Falling.{one_more, past_a_hit, past_no_hit}
use Rattle.cf_seek.proofs.seek.passed_below_hits.Goals.{in-Hit, in_default}
use Rattle.cf_seek.proofs.seek.passed_below_hits.Goals as goal

-- src/seek.rt:352:5
pub loop-i-preserved : goal.loop-i-preserved
loop-i-preserved g c =
    let own : Chain = own_of (g.H.HeaderStore.chain c.args.store.now) c.args.p in
    let kept = c.loop-i.invariant in
    elim c.match-verdicts-i.branch [
      | in-Hit w ↦ let is = w.passed-is in let below = w.passed_below-passed.ensures.low in let low = kept.low in record {
        low = omega (arith, is, below, low);
        apart = past_a_hit own c.loop-i.passed c.match-verdicts-i.passed c.args.jobs.now c.args.verdicts.now c.loop-i.i
            c.index-jobs-i.result c.loop-i-test.true c.if-i-verdicts.false c.index-jobs-i.is kept.apart (omega (arith, is, below))
            (λ h above most. w.passed_below-passed.ensures.apart h above (omega (arith, is, most)));
        tight = one_more own c.args.passed c.loop-i.passed c.match-verdicts-i.passed c.args.jobs.now c.args.verdicts.now c.loop-i.i
            c.index-jobs-i.result c.loop-i-test.true c.if-i-verdicts.false w.in-Hit.is c.index-jobs-i.is
            (is ∙ w.passed_below-passed.ensures.is) kept.tight;
      }
      | in_default w ↦ let is = w.passed-is in let low = kept.low in record {
        low = omega (arith, is, low);
        apart = subst (λ (n : ℕ). ArePassedHits own n c.args.jobs.now c.args.verdicts.now (c.loop-i.i + 1)) (sym is)
            (past_no_hit own c.loop-i.passed c.args.jobs.now c.args.verdicts.now c.loop-i.i c.if-i-verdicts.false w.in_default.not-Hit kept.apart);
        tight = λ lt. subst (λ (n : ℕ). IsBelowAHit own n c.args.jobs.now c.args.verdicts.now) (sym is) (kept.tight (omega (arith, is, lt)));
      }
    ]
