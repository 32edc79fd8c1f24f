use Rattle.std.proofs.Common.{subst}
use Rattle.std.proofs.lemmas.Result.{err_from_is_err_and}
use Rattle.cf_place.specs.Places.{ActTells}
use Rattle.cf_run.proofs.over.perform_act.Goals as goal

pub returns-in_ok-perform_send-in-Send-clause-versions : goal.returns-in_ok-perform_send-in-Send-clause-versions
returns-in_ok-perform_send-in-Send-clause-versions g c = λ greeting tells. c.in_ok-perform_send-in-Send.ensures.versions greeting (subst (ActTells greeting) c.in-Send.is tells)

pub returns-in_err-perform_send-in-Send-clause-versions : goal.returns-in_err-perform_send-in-Send-clause-versions
returns-in_err-perform_send-in-Send-clause-versions g c = λ greeting tells. c.in_err-perform_send-in-Send.ensures.versions greeting (subst (ActTells greeting) c.in-Send.is tells)

pub returns-in_ok-perform_close-in-Close-clause-versions : goal.returns-in_ok-perform_close-in-Close-clause-versions
returns-in_ok-perform_close-in-Close-clause-versions g c = λ greeting tells. c.in_ok-perform_close-in-Close.ensures.versions greeting

pub returns-in_err-perform_close-in-Close-clause-versions : goal.returns-in_err-perform_close-in-Close-clause-versions
returns-in_err-perform_close-in-Close-clause-versions g c = λ greeting tells. c.in_err-perform_close-in-Close.ensures.versions greeting

pub returns-in_ok-perform_close-in-Close-clause-doing : goal.returns-in_ok-perform_close-in-Close-clause-doing
returns-in_ok-perform_close-in-Close-clause-doing g c = rw c.in-Close.is (c.in_ok-perform_close-in-Close.ensures.doing)

pub returns-in_err-perform_send-in-Send-clause-right : goal.returns-in_err-perform_send-in-Send-clause-right
returns-in_err-perform_send-in-Send-clause-right g c = (let p = err_from_is_err_and c.from_residual.result c.from_residual.ensures.1 in
    rw (p.1, c.in-Send.is) c.in_err-perform_send-in-Send.ensures.right)

pub returns-in_err-perform_close-in-Close-clause-right : goal.returns-in_err-perform_close-in-Close-clause-right
returns-in_err-perform_close-in-Close-clause-right g c = (let p = err_from_is_err_and c.from_residual-in_err-perform_close-in-Close.result c.from_residual-in_err-perform_close-in-Close.ensures.1 in
    rw (p.1, c.in-Close.is) c.in_err-perform_close-in-Close.ensures.right)
