use Rattle.std.proofs.Common.{ℕ, take}
use Rattle.cf_chain.specs.Serve.{replies_to}
use Rattle.cf_server.specs.Replies.{Adds}
use Rattle.cf_server.proofs.Telling.{adds_plan, adds_begun}
use Rattle.cf_server.proofs.Walking.{on_err}
use Rattle.cf_server.proofs.answering.answer.Goals as goal

pub returns-in_err-plan-clause-err : goal.returns-in_err-plan-clause-err
returns-in_err-plan-clause-err c =
    let served = c.args.served.now in
    let replies = replies_to served.time served.nonce c.args.index.now served.seen c.args.msg.now in
    on_err ((n : ℕ) × Adds served c.args.index.now c.args.out.now c.plan.new.out (take n replies)) c.from_residual.result
    (adds_begun served c.args.index.now c.args.msg.now c.args.out.now c.plan.new.out c.in_err-plan.ensures.err)

pub returns-else-is_version-clause-ok : goal.returns-else-is_version-clause-ok
returns-else-is_version-clause-ok c = adds_plan c.args.served.now c.args.index.now c.args.msg.now c.args.out.now c.plan.new.out c.in_ok-plan.ensures.ok
