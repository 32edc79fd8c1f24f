use Rattle.std.proofs.Common.{◌≡◌, ◌++◌, filter, take}
use Rattle.cf_filter.specs.Items.{texts, is_spent_item}
use Rattle.cf_filter.proofs.collecting.put_spent.Given as goal

abbrev pub invariant-loop-script : goal.invariant-loop-script
invariant-loop-script l = texts l.scripts.items ≡ texts l.fn.scripts.items ++ filter is_spent_item (take l.script-index l.prevouts)
