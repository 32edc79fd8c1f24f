use Rattle.std.proofs.Common.{◌≡◌, ◌-◌, ◌++◌, map}
use Rattle.std.specs.List.{range_with_len}
use Rattle.cf_server.specs.declared.reply.Reply.TheVariants.{CfilterAt}
use Rattle.cf_server.proofs.plan.plan_each_cfilter.Given as goal

abbrev pub invariant-loop-height : goal.invariant-loop-height
invariant-loop-height l = l.out ≡ l.fn.out ++ map (λ h. CfilterAt h) (range_with_len l.start (l.height - l.start))
