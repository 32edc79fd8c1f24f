use Rattle.std.proofs.Common.{◌≡◌, take, map}
use Rattle.cf_filter.specs.Items.{texts}
use Rattle.cf_filter.specs.Filter.{value_under}
use Rattle.cf_filter.proofs.key.values.Given as goal

abbrev pub invariant-loop-item : goal.invariant-loop-item
invariant-loop-item l = l.values.items ≡ map (value_under l.key.k0 l.key.k1 l.n) (texts (take l.item-index l.items))
