use Rattle.std.proofs.Common.{◌≡◌, filter, take}
use Rattle.std.specs.List.{flat_map}
use Rattle.cf_filter.specs.Items.{texts, is_paid_item, paid_scripts}
use Rattle.cf_filter.proofs.collecting.items.Given as goal

abbrev pub invariant-loop-tx : goal.invariant-loop-tx
invariant-loop-tx l = texts l.scripts.items ≡ flat_map (λ t. filter is_paid_item (paid_scripts t)) (take l.tx-index l.tx-items)
