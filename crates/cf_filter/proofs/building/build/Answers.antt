use Rattle.std.proofs.Common.{◌∙◌}
use Rattle.cf_filter.specs.Filter.{basic_filter_of}
use Rattle.cf_filter.proofs.Values.{built_values, has_spelling}
use Rattle.cf_filter.proofs.building.build.Goals as goal

pub encode-requires : goal.encode-requires
encode-requires c =
    let is = built_values c.args.block_hash.now.0 c.as_slice.result.now c.args.items.now c.in_ok-values.values.items c.sort_unstable.new.self.items c.as_slice.ensures.scripts c.in_ok-values.ensures c.sort_unstable.ensures.permutation c.sort_unstable.ensures.sorted in
    rw (c.deref.ensures.value ∙ is) (has_spelling c.args.block_hash.now.0 c.args.items.now c.requires)

pub returns : goal.returns
unfolding basic_filter_of
returns c =
    let is = built_values c.args.block_hash.now.0 c.as_slice.result.now c.args.items.now c.in_ok-values.values.items c.sort_unstable.new.self.items c.as_slice.ensures.scripts c.in_ok-values.ensures c.sort_unstable.ensures.permutation c.sort_unstable.ensures.sorted in
    rw (← is, ← c.deref.ensures.value) c.encode.ensures
