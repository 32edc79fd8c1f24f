use Rattle.std.proofs.Common.{arith}
use Rattle.std.proofs.lemmas.Result.{err_from_is_err_and}
use Rattle.cf_place.specs.Places.{after}
use Rattle.cf_run.proofs.Courses.{performs_then}
use Rattle.cf_run.proofs.Performs.{acts_more, acts_done}
use Rattle.cf_run.proofs.Versions.{one_tells}
use Rattle.cf_run.proofs.Rights.{acts_right}
use Rattle.cf_run.proofs.over.perform_acts.Goals as goal

pub loop-act-preserved : goal.loop-act-preserved
loop-act-preserved g c = record {
  doing = λ rule called planned allowed doing.
      acts_more c.args.acts.now c.loop-act.act-index c.act-item.result (after c.args.acts.now planned) _ _ called _ _ (omega arith) c.act-item.is (c.loop-act.invariant.doing rule called planned allowed doing) (c.in_ok-perform_act.ensures.doing rule);
  versions = λ greeting all has.
      c.in_ok-perform_act.ensures.versions greeting (one_tells greeting c.args.acts.now c.loop-act.act-index c.act-item.result (omega arith) c.act-item.is all) (c.loop-act.invariant.versions greeting all has);
  performs = performs_then c.loop-act.invariant.performs c.in_ok-perform_act.ensures.performs;
}

pub returns-clause-doing : goal.returns-clause-doing
returns-clause-doing g c = λ rule called planned allowed doing.
    acts_done c.args.acts.now c.loop-act.act-index (after c.args.acts.now planned) c.loop-act.progress called (g.W.Wires.told c.loop-act.wires) (omega arith) (c.loop-act.invariant.doing rule called planned allowed doing)

pub returns-in_err-perform_act-clause-versions : goal.returns-in_err-perform_act-clause-versions
returns-in_err-perform_act-clause-versions g c = λ greeting all has.
    c.in_err-perform_act.ensures.versions greeting (one_tells greeting c.args.acts.now c.loop-act.act-index c.act-item.result (omega arith) c.act-item.is all) (c.loop-act.invariant.versions greeting all has)

pub returns-in_err-perform_act-clause-right : goal.returns-in_err-perform_act-clause-right
returns-in_err-perform_act-clause-right g c = (let p = err_from_is_err_and c.from_residual.result c.from_residual.ensures.1 in rw p.1 (λ rule called planned allowed doing.
    acts_right c.args.acts.now c.loop-act.act-index c.act-item.result (after c.args.acts.now planned) c.loop-act.progress
    called (g.W.Wires.told c.loop-act.wires) (g.W.Wires.told c.perform_act.new.wires) (omega arith) c.act-item.is
    (c.loop-act.invariant.doing rule called planned allowed doing)
    (c.in_err-perform_act.ensures.right rule)))
