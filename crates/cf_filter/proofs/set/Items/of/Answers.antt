use Rattle.std.proofs.lemmas.List.Filters.{dedup_is}
use Rattle.cf_filter.proofs.Sets.{set_sorted, set_made}
use Rattle.cf_filter.proofs.set.Items.of.Goals as goal

pub invariant_of-result : goal.invariant_of-result
invariant_of-result c = set_sorted c.sort_unstable.new.self.items c.dedup.new.self.items c.sort_unstable.ensures.sorted (dedup_is _ _ _ c.dedup.ensures.filtered)

pub returns : goal.returns
returns c = set_made c.args.scripts.items c.sort_unstable.new.self.items c.dedup.new.self.items c.sort_unstable.ensures.permutation c.sort_unstable.ensures.sorted (dedup_is _ _ _ c.dedup.ensures.filtered)
