use Rattle.std.proofs.Common.{refl}
use Rattle.std.proofs.lemmas.Result.{err_from_is_err_and}
use Rattle.cf_run.specs.Texts.{last_text}
use Rattle.cf_run.proofs.Puts.{none_next, not_put, told_again, busy_unrested, alone_unrested, one_next, some_puts, texts_err, texts_ok, texts_short}
use Rattle.cf_run.proofs.follow.put_at_rest.Goals as goal

pub returns-in-Working-clause-put : goal.returns-in-Working-clause-put
returns-in-Working-clause-put g c = λ before is.
    none_next c.args.client.now before (last_text c.args.last.now) _ is (λ log reflects. busy_unrested log (c.in-Working.ensures.state log reflects))

pub returns-in-NoPeers-clause-put : goal.returns-in-NoPeers-clause-put
returns-in-NoPeers-clause-put g c = λ before is.
    none_next c.args.client.now before (last_text c.args.last.now) _ is (λ log reflects. alone_unrested log (c.in-NoPeers.ensures.state log reflects))

pub returns-then-tells-clause-put : goal.returns-then-tells-clause-put
returns-then-tells-clause-put g c = λ before is.
    let r = c.in_ok-report.report in
    one_next c.args.client.now before _ _ _ _ r.height r.tip r.history c.requires.follows c.in-Synced.ensures.state c.in_ok-report.ensures.report refl
    (not_put _ before (last_text c.args.last.now) _
    (told_again c.args.last.now r before c.tells.result c.if-tells.true c.tells.ensures.some c.tells.ensures.none is) is)

pub returns-clause-put : goal.returns-clause-put
returns-clause-put g c = λ before is.
    let r = c.in_ok-report.report in
    one_next c.args.client.now before _ _ _ _ r.height r.tip r.history c.requires.follows c.in-Synced.ensures.state c.in_ok-report.ensures.report c.in_ok-text.ensures
    (c.in_ok-put_text.ensures.put before is)

pub returns-in_err-report-clause-put_some : goal.returns-in_err-report-clause-put_some
returns-in_err-report-clause-put_some g c = (let p = err_from_is_err_and c.from_residual.result c.from_residual.ensures.1 in rw (p.1, p.2) (λ before is. refl))

pub returns-in_err-text-clause-put_some : goal.returns-in_err-text-clause-put_some
returns-in_err-text-clause-put_some g c =
    (let p = err_from_is_err_and c.from_residual-in_err-text.result c.from_residual-in_err-text.ensures.1 in rw (p.1, p.2) (λ before is. refl))

pub returns-in_err-put_text-clause-put_some : goal.returns-in_err-put_text-clause-put_some
returns-in_err-put_text-clause-put_some g c =
    (let p = err_from_is_err_and c.from_residual-in_err-put_text.result c.from_residual-in_err-put_text.ensures.1 in rw (p.1, p.2) (λ before is.
    let r = c.in_ok-report.report in
    some_puts _ c.args.client.now before _ _ _ r.height r.tip r.history c.requires.follows c.in-Synced.ensures.state c.in_ok-report.ensures.report c.in_ok-text.ensures
    (c.in_err-put_text.ensures.begun before is)))

pub returns-in-Working-clause-texts : goal.returns-in-Working-clause-texts
returns-in-Working-clause-texts g c = texts_ok refl refl

pub returns-in-NoPeers-clause-texts : goal.returns-in-NoPeers-clause-texts
returns-in-NoPeers-clause-texts g c = texts_ok refl refl

pub returns-then-tells-clause-texts : goal.returns-then-tells-clause-texts
returns-then-tells-clause-texts g c = texts_ok refl refl

pub returns-clause-texts : goal.returns-clause-texts
returns-clause-texts g c = texts_ok c.in_ok-put_text.ensures.texts.fine c.in_ok-put_text.ensures.texts.same_reference

pub returns-in_err-report-clause-texts : goal.returns-in_err-report-clause-texts
returns-in_err-report-clause-texts g c = (let p = err_from_is_err_and c.from_residual.result c.from_residual.ensures.1 in rw (p.1, p.2) (texts_short refl refl))

pub returns-in_err-text-clause-texts : goal.returns-in_err-text-clause-texts
returns-in_err-text-clause-texts g c = (let p = err_from_is_err_and c.from_residual-in_err-text.result c.from_residual-in_err-text.ensures.1 in rw (p.1, p.2) (texts_short refl refl))

pub returns-in_err-put_text-clause-texts : goal.returns-in_err-put_text-clause-texts
returns-in_err-put_text-clause-texts g c = (let p = err_from_is_err_and c.from_residual-in_err-put_text.result c.from_residual-in_err-put_text.ensures.1 in rw (p.1, p.2) (texts_err _ refl refl c.in_err-put_text.ensures.texts))
