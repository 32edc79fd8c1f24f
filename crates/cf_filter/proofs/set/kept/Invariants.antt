use Rattle.std.proofs.Common.{◌≡◌, take}
use Rattle.cf_filter.specs.Items.{texts, items_without}
use Rattle.cf_filter.proofs.set.kept.Given as goal

abbrev pub invariant-loop-item : goal.invariant-loop-item
invariant-loop-item l = texts l.kept.items ≡ items_without (texts l.left_out) (texts (take l.item-index l.items))
