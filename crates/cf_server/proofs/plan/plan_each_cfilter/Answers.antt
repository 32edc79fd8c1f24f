use Rattle.std.proofs.Common.{◌≡◌, suc, ◌+◌, ◌-◌, ◌++◌, map, ◌∙◌, ap, arith}
use Rattle.std.specs.List.{range_with_len}
use Rattle.cf_server.specs.declared.reply.Reply.TheVariants.{CfilterAt}
use Rattle.cf_server.specs.Plans.{Begun}
use Rattle.cf_server.proofs.Walking.{on_err, range_on, range_begun}
use Rattle.cf_server.proofs.plan.plan_each_cfilter.Goals as goal

pub loop-height-preserved : goal.loop-height-preserved
loop-height-preserved c =
    range_on (λ h. CfilterAt h) c.args.start c.loop-height.height c.args.out.now c.loop-height.out c.push.new.self c.loop-height.auto.height c.loop-height.invariant c.in_ok-push.ensures.ok

pub returns-clause-ok : goal.returns-clause-ok
returns-clause-ok c =
    let all : c.loop-height.height - c.args.start ≡ suc c.args.last - c.args.start = omega arith in
    c.loop-height.invariant ∙ ap (λ n. c.args.out.now ++ map (λ h. CfilterAt h) (range_with_len c.args.start n)) all

pub returns-in_ok-push-clause-ok : goal.returns-in_ok-push-clause-ok
returns-in_ok-push-clause-ok c =
    let all : (c.loop-height.height + 1) - c.args.start ≡ suc c.args.last - c.args.start = omega arith in
    range_on (λ h. CfilterAt h) c.args.start c.loop-height.height c.args.out.now c.loop-height.out c.push.new.self c.loop-height.auto.height c.loop-height.invariant c.in_ok-push.ensures.ok
    ∙ ap (λ n. c.args.out.now ++ map (λ h. CfilterAt h) (range_with_len c.args.start n)) all

pub returns-in_err-push-clause-err : goal.returns-in_err-push-clause-err
returns-in_err-push-clause-err c =
    on_err (Begun c.args.out.now c.push.new.self (map (λ h. CfilterAt h) (range_with_len c.args.start (suc c.args.last - c.args.start)))) c.from_residual.result
    (range_begun (λ h. CfilterAt h) c.args.start (c.loop-height.height - c.args.start) (suc c.args.last - c.args.start) c.args.out.now c.push.new.self (omega arith) (c.in_err-push.ensures.err ∙ c.loop-height.invariant))
