use Rattle.std.proofs.Common.{◌≡◌, ◌++◌, map, filter, take}
use Rattle.cf_filter.specs.Items.{texts, is_paid_item}
use Rattle.cf_filter.proofs.collecting.put_paid.Given as goal

abbrev pub invariant-loop-output : goal.invariant-loop-output
invariant-loop-output l = texts l.scripts.items ≡ texts l.fn.scripts.items ++ filter is_paid_item (map (λ o. o.script) (take l.output-index l.outputs))
