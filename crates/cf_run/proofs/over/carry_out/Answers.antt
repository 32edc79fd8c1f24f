use Rattle.std.proofs.Common.{refl}
use Rattle.std.proofs.lemmas.Result.{err_from_is_err_and}
use Rattle.cf_place.specs.Places.{after}
use Rattle.cf_client.specs.Stands.{rule_by, greeting_by}
use Rattle.cf_run.proofs.Courses.{performs_then}
use Rattle.cf_run.proofs.Rights.{terms_err, terms_on}
use Rattle.cf_run.proofs.over.carry_out.Goals as goal

pub returns-clause-holds : goal.returns-clause-holds
returns-clause-holds g c = λ called log answers doing ticked.
    c.in_ok-settle.ensures.holds called (after c.args.acts.now log) answers.stand (c.in_ok-perform_acts.ensures.doing (rule_by c.args.client.now) called log answers.allowed doing) ticked

pub returns-clause-performs : goal.returns-clause-performs
returns-clause-performs g c = performs_then c.in_ok-perform_acts.ensures.performs c.in_ok-settle.ensures.performs

pub returns-clause-versions : goal.returns-clause-versions
returns-clause-versions g c = λ called log answers doing tells has.
    (c.in_ok-settle.ensures.stays called (after c.args.acts.now log) answers.stand (c.in_ok-perform_acts.ensures.doing (rule_by c.args.client.now) called log answers.allowed doing)).versions
    (c.in_ok-perform_acts.ensures.versions (greeting_by c.args.client.now) tells has)

pub returns-in_err-settle-clause-versions : goal.returns-in_err-settle-clause-versions
returns-in_err-settle-clause-versions g c = λ called log answers doing tells has.
    (c.in_err-settle.ensures.stays called (after c.args.acts.now log) answers.stand (c.in_ok-perform_acts.ensures.doing (rule_by c.args.client.now) called log answers.allowed doing)).versions
    (c.in_ok-perform_acts.ensures.versions (greeting_by c.args.client.now) tells has)

pub returns-in_err-perform_acts-clause-versions : goal.returns-in_err-perform_acts-clause-versions
returns-in_err-perform_acts-clause-versions g c = λ called log answers doing tells has. c.in_err-perform_acts.ensures.versions (greeting_by c.args.client.now) tells has

pub returns-in_err-perform_acts-clause-right : goal.returns-in_err-perform_acts-clause-right
returns-in_err-perform_acts-clause-right g c = (let p = err_from_is_err_and c.from_residual.result c.from_residual.ensures.1 in rw p.1 (λ called log answers doing.
    c.in_err-perform_acts.ensures.right (rule_by c.args.client.now) called log answers.allowed doing))

pub returns-in_err-settle-clause-right : goal.returns-in_err-settle-clause-right
returns-in_err-settle-clause-right g c = (let p = err_from_is_err_and c.from_residual-in_err-settle.result c.from_residual-in_err-settle.ensures.1 in rw p.1 (λ called log answers doing.
    (c.in_err-settle.ensures.stays called (after c.args.acts.now log) answers.stand
    (c.in_ok-perform_acts.ensures.doing (rule_by c.args.client.now) called log answers.allowed doing)).right))

pub returns-clause-terms : goal.returns-clause-terms
returns-clause-terms g c = terms_on refl refl c.in_ok-settle.ensures.terms

pub returns-in_err-settle-clause-terms : goal.returns-in_err-settle-clause-terms
returns-in_err-settle-clause-terms g c = (let p = err_from_is_err_and c.from_residual-in_err-settle.result c.from_residual-in_err-settle.ensures.1 in rw p.1 (terms_err refl c.in_err-settle.ensures.terms))

pub returns-in_err-perform_acts-clause-terms : goal.returns-in_err-perform_acts-clause-terms
returns-in_err-perform_acts-clause-terms g c = (let p = err_from_is_err_and c.from_residual.result c.from_residual.ensures.1 in rw p.1 (record { rule = tt; greeting = refl }))
