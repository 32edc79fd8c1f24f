use Rattle.std.proofs.Common.{◌≡◌, ◌++◌, map, filter, length}
use Rattle.cf_filter.specs.Items.{texts, is_paid_item}
use Rattle.cf_filter.proofs.lent.put_lent.Given as goal

abbrev pub invariant-loop-output : goal.invariant-loop-output
invariant-loop-output l = record {
  all : texts l.scripts.items ++ filter is_paid_item (map (λ o. o.script) l.outputs)
      ≡ texts l.fn.scripts.items ++ filter is_paid_item (map (λ o. o.script) l.fn.outputs);
}

abbrev pub decreases-loop-output : goal.decreases-loop-output
decreases-loop-output l = length l.outputs
