use Rattle.std.proofs.Common.{◌∙◌}
use Rattle.std.specs.List.{flat_map}
use Rattle.cf_server.specs.Plans.{Begun, data_plan}
use Rattle.cf_server.proofs.Walking.{on_err, flat_begun}
use Rattle.cf_server.proofs.plan.plan_data.Goals as goal

pub returns-in_err-plan_entry-clause-err : goal.returns-in_err-plan_entry-clause-err
returns-in_err-plan_entry-clause-err c =
    let plan = data_plan c.args.index.now in
    on_err (Begun c.args.out.now c.plan_entry.new.out (flat_map plan c.args.entries.now)) c.from_residual.result
    (flat_begun plan c.args.entries.now c.loop-entry.entry-index c.args.out.now c.plan_entry.new.out (c.in_err-plan_entry.ensures.err ∙ c.loop-entry.invariant))
