use Rattle.std.proofs.Common.{◌≡◌, ◌<◌, length, Err, true, false, sym, ◌∙◌, ap, arith}
use Rattle.std.proofs.lemmas.Result.{err_from_is_err_and}
use Rattle.cf_run.specs.States.{is_pending, state_at}
use Rattle.cf_run.proofs.Performs.{skipped_send, sent_on, failed_on, may_send}
use Rattle.cf_wires.specs.declared.event.Event.TheVariants.{SendFailed}
use Rattle.cf_run.proofs.Versions.{sent_keeps, entry_keeps, same_keeps}
use Rattle.cf_run.proofs.Rights.{doing_right, right_at, sent_right}
use Rattle.cf_run.proofs.over.perform_send.Goals as goal

pub returns-then-is_pending-clause-doing : goal.returns-then-is_pending-clause-doing
returns-then-is_pending-clause-doing g c = λ rule more called planned may doing.
    let is : is_pending (state_at c.args.progress.now.sends c.args.p.0) ≡ true = sym c.is_pending.ensures ∙ c.if-is_pending.true in
    skipped_send more c.args.progress.now called planned (g.W.Wires.told c.args.wires.now) c.args.p c.args.message.now is may doing

pub returns-in_ok-push-in-Ok-clause-doing : goal.returns-in_ok-push-in-Ok-clause-doing
returns-in_ok-push-in-Ok-clause-doing g c = λ rule more called planned may doing.
    let free : is_pending (state_at c.args.progress.now.sends c.args.p.0) ≡ false = sym c.is_pending.ensures ∙ c.if-is_pending.false in
    rw c.in-Ok.ensures.sent.1
    (sent_on more c.args.progress.now c.push.new.self called planned _ c.args.p c.args.message.now c.in-Ok.command free c.in_ok-push-in-Ok.ensures.kept c.push.ensures.wanted c.in-Ok.ensures.sent.0 may doing)

pub returns-in-Err-Failed-clause-doing : goal.returns-in-Err-Failed-clause-doing
returns-in-Err-Failed-clause-doing g c = λ rule more called planned may doing.
    let progress = c.args.progress.now in
    let free : is_pending (state_at progress.sends c.args.p.0) ≡ false = sym c.is_pending.ensures ∙ c.if-is_pending.false in
    let fine = may_send _ progress called planned _ c.args.p c.args.message.now free may doing in
    let lt : c.args.p.0 < length progress.sends = omega arith in
    rw (c.in-Err-Failed.ensures.not_sent (ap Err c.in-Err-Failed.field-0-is), c.note_failure.ensures.noted fine)
    (failed_on more progress called planned _ c.args.p c.args.message.now lt free may doing)

pub returns-in_ok-push-in-Ok-clause-versions : goal.returns-in_ok-push-in-Ok-clause-versions
returns-in_ok-push-in-Ok-clause-versions g c = λ greeting tells. sent_keeps greeting c.args.p c.args.message.now _ _ c.requires.sendable c.in-Ok.ensures.sent.1 tells

pub returns-in_err-push-in-Ok-clause-versions : goal.returns-in_err-push-in-Ok-clause-versions
returns-in_err-push-in-Ok-clause-versions g c = λ greeting tells. sent_keeps greeting c.args.p c.args.message.now _ _ c.requires.sendable c.in-Ok.ensures.sent.1 tells

pub returns-in-Err-Failed-clause-versions : goal.returns-in-Err-Failed-clause-versions
returns-in-Err-Failed-clause-versions g c = λ greeting tells. entry_keeps greeting (SendFailed c.args.p) _ _ (c.in-Err-Failed.ensures.not_sent (ap Err c.in-Err-Failed.field-0-is)) tt

pub returns-in-Err-NoMemory-clause-versions : goal.returns-in-Err-NoMemory-clause-versions
returns-in-Err-NoMemory-clause-versions g c = λ greeting tells. same_keeps greeting _ _ (c.in-Err-NoMemory.ensures.no_memory (ap Err c.in-Err-NoMemory.field-0-is))

pub returns-in_err-push-in-Ok-clause-right : goal.returns-in_err-push-in-Ok-clause-right
returns-in_err-push-in-Ok-clause-right g c = (let p = err_from_is_err_and c.from_residual.result c.from_residual.ensures.1 in rw p.1 (λ rule more called planned may doing.
    let free : is_pending (state_at c.args.progress.now.sends c.args.p.0) ≡ false = sym c.is_pending.ensures ∙ c.if-is_pending.false in
    sent_right more c.args.progress.now called planned _ _ c.args.p c.args.message.now free c.in-Ok.ensures.sent.1 may doing))

pub returns-in-Err-NoMemory-clause-right : goal.returns-in-Err-NoMemory-clause-right
returns-in-Err-NoMemory-clause-right g c = λ rule more called planned may doing.
    right_at rule.mode (c.in-Err-NoMemory.ensures.no_memory (ap Err c.in-Err-NoMemory.field-0-is)) (doing_right doing)
