use Rattle.std.proofs.Common.{◌≡◌, ◌++◌, take}
use Rattle.std.specs.List.{flat_map}
use Rattle.cf_server.specs.Plans.{data_plan}
use Rattle.cf_server.proofs.plan.plan_data.Given as goal

abbrev pub invariant-loop-entry : goal.invariant-loop-entry
invariant-loop-entry l = l.out ≡ l.fn.out ++ flat_map (data_plan l.index) (take l.entry-index l.entries)
