use Rattle.std.proofs.Common.{◌∙◌, [], refl}
use Rattle.std.proofs.lemmas.Result.{err_from_is_err_and}
use Rattle.cf_run.proofs.Passing.{passes_dials}
use Rattle.cf_run.proofs.Puts.{none_before}
use Rattle.cf_run.proofs.Turns.{starts}
use Rattle.cf_run.proofs.Rights.{terms_err, terms_on}
use Rattle.cf_run.proofs.over.dial_first.Goals as goal

pub returns-clause-holds : goal.returns-clause-holds
returns-clause-holds g c = c.in_ok-dial_all.ensures.holds (starts c.args.client.now c.new-progress.result
    (g.W.Wires.told c.args.wires.now) c.requires.reflects c.new-progress.ensures.unused c.requires.wires.log)

pub returns-clause-passes : goal.returns-clause-passes
returns-clause-passes g c = let dials = c.in_ok-dial_all.ensures in
    passes_dials c.args.client.now c.requires.reflects c.new-progress.ensures.unused c.requires.wires.log (λ start. (dials.stays start).versions)
    dials.first dials.taken dials.unended dials.runs

pub returns-in_err-dial_all-clause-passes : goal.returns-in_err-dial_all-clause-passes
returns-in_err-dial_all-clause-passes g c = let dials = c.in_err-dial_all.ensures in
    passes_dials c.args.client.now c.requires.reflects c.new-progress.ensures.unused c.requires.wires.log (λ start. (dials.stays start).versions)
    dials.first dials.taken dials.unended dials.runs

pub returns-clause-puts : goal.returns-clause-puts
returns-clause-puts g c = λ watch. c.in_ok-dial_all.ensures.puts watch []
    (none_before watch (g.W.Wires.told c.args.wires.now) c.requires.wires.log)

pub returns-in_err-dial_all-clause-puts : goal.returns-in_err-dial_all-clause-puts
returns-in_err-dial_all-clause-puts g c = λ watch. c.in_err-dial_all.ensures.puts watch []
    (none_before watch (g.W.Wires.told c.args.wires.now) c.requires.wires.log)

pub returns-in_err-dial_all-clause-right : goal.returns-in_err-dial_all-clause-right
returns-in_err-dial_all-clause-right g c = (let p = err_from_is_err_and c.from_residual.result c.from_residual.ensures.1 in rw p.1 (c.in_err-dial_all.ensures.stays (starts c.args.client.now c.new-progress.result
    (g.W.Wires.told c.args.wires.now) c.requires.reflects c.new-progress.ensures.unused c.requires.wires.log)).right)

pub returns-clause-terms : goal.returns-clause-terms
returns-clause-terms g c = terms_on refl refl c.in_ok-dial_all.ensures.terms

pub returns-in_err-dial_all-clause-terms : goal.returns-in_err-dial_all-clause-terms
returns-in_err-dial_all-clause-terms g c = (let p = err_from_is_err_and c.from_residual.result c.from_residual.ensures.1 in rw p.1 (terms_err refl c.in_err-dial_all.ensures.terms))

pub returns-clause-wanted : goal.returns-clause-wanted
returns-clause-wanted g c = c.in_ok-dial_all.ensures.runs.wanted ∙ c.new-progress.ensures.wanted
