use Rattle.std.proofs.Common.{◌≡◌, Option, [], refl, ap, sym, subst, unwrap_or}
use Rattle.cf_headers.specs.Chain.{Chain}
use Rattle.cf_headers.specs.Store.{own_of}
use Rattle.cf_seek.specs.declared.cursors.Marks.{Marks}
use Rattle.cf_seek.specs.Cursors.{marks_at}
use Rattle.cf_seek.specs.Tracking.{IsFallen}
use Rattle.cf_seek.proofs.Falling.{fell, put_there}
use Rattle.cf_seek.proofs.seek.fall_at.Goals as goal

pub returns-clause-here : goal.returns-clause-here
returns-clause-here g c =
    let chains = g.H.HeaderStore.chain c.args.store.now in
    let fallen : Marks = record { claimed = c.of-marks.result.claimed; sought = c.of-marks.result.sought; passed = c.passed_below_hits-passed.result } in
    let put : marks_at c.put.new.self c.args.p.0 ≡ fallen =
    put_there c.args.cursors.now c.put.new.self c.args.p.0 c.of-marks.result fallen c.put.ensures c.of-marks.ensures c.if-marks-eq0.false in
    let one : IsFallen (chains c.args.p.0) c.of-marks.result fallen c.args.jobs.now c.args.verdicts.now =
    fell (chains c.args.p.0) (own_of chains c.args.p) c.of-marks.result fallen c.args.jobs.now c.args.verdicts.now
    (λ there some. ap (λ (o : Option Chain). unwrap_or o []) some) refl refl
    c.passed_below_hits-passed.ensures.low c.passed_below_hits-passed.ensures.apart c.passed_below_hits-passed.ensures.tight in
    subst (λ (m : Marks). IsFallen (chains c.args.p.0) m (marks_at c.put.new.self c.args.p.0) c.args.jobs.now c.args.verdicts.now) c.of-marks.ensures
    (subst (λ (m : Marks). IsFallen (chains c.args.p.0) c.of-marks.result m c.args.jobs.now c.args.verdicts.now) (sym put) one)
