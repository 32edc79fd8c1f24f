use Rattle.std.proofs.Common.{◌≡◌, true, false, get_or, sym, ◌∙◌}
use Rattle.std.proofs.lemmas.Result.{err_from_is_err_and}
use Rattle.cf_run.specs.States.{is_pending, state_at}
use Rattle.cf_run.proofs.Performs.{skipped_close, closed_again, closed_on}
use Rattle.cf_wires.specs.declared.event.Event.TheVariants.{Closed}
use Rattle.cf_run.proofs.Versions.{entry_keeps}
use Rattle.cf_run.proofs.Rights.{doing_right}
use Rattle.cf_run.proofs.over.perform_close.Goals as goal

pub returns-then-is_pending-clause-doing : goal.returns-then-is_pending-clause-doing
returns-then-is_pending-clause-doing g c = λ rule more called planned may doing.
    let is : is_pending (state_at c.args.progress.now.sends c.args.p.0) ≡ true = sym c.is_pending.ensures ∙ c.if-is_pending.true in
    skipped_close more c.args.progress.now called planned (g.W.Wires.told c.args.wires.now) c.args.p c.args.cause is may doing

pub returns-then-is_closed-clause-doing : goal.returns-then-is_closed-clause-doing
returns-then-is_closed-clause-doing g c = λ rule more called planned may doing.
    let free : is_pending (state_at c.args.progress.now.sends c.args.p.0) ≡ false = sym c.is_pending.ensures ∙ c.if-is_pending.false in
    let shut : get_or c.args.progress.now.closed c.args.p.0 false ≡ true = sym c.is_closed.ensures ∙ c.if-is_closed.true in
    closed_again more c.args.progress.now called planned (g.W.Wires.told c.args.wires.now) c.args.p c.args.cause free shut may doing

pub returns-clause-doing : goal.returns-clause-doing
returns-clause-doing g c = λ rule more called planned may doing.
    let free : is_pending (state_at c.args.progress.now.sends c.args.p.0) ≡ false = sym c.is_pending.ensures ∙ c.if-is_pending.false in
    rw c.close.ensures.closed
    (closed_on more c.args.progress.now c.push.new.self called planned _ c.args.p c.args.cause free c.in_ok-push.ensures.kept c.push.ensures.wanted may doing)

pub returns-clause-versions : goal.returns-clause-versions
returns-clause-versions g c = λ greeting. entry_keeps greeting (Closed c.args.p) _ _ c.close.ensures.closed tt

pub returns-in_err-push-clause-right : goal.returns-in_err-push-clause-right
returns-in_err-push-clause-right g c = (let p = err_from_is_err_and c.from_residual.result c.from_residual.ensures.1 in rw p.1 (λ rule more called planned may doing. doing_right doing))
