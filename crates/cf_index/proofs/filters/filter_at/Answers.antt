use Rattle.std.proofs.Common.{◌∙◌, ap, length, arith}
use Rattle.std.specs.FinMap.{empty}
use Rattle.cf_index.proofs.Walking.{hashes_length, prevouts_length, few_at}
use Rattle.cf_index.proofs.filters.filter_at.Goals as goal

pub bounds-hashes-i : goal.bounds-hashes-i
bounds-hashes-i c = let long = ap length c.requires.kept.named in let same = hashes_length c.args.blocks.now in omega (arith, long, same, c.requires.within)

pub bounds-spent-i : goal.bounds-spent-i
bounds-spent-i c = let long = ap length c.requires.kept.taken in let same = prevouts_length empty c.args.blocks.now in omega (arith, long, same, c.requires.within)

pub bare_filter-requires-clause-few : goal.bare_filter-requires-clause-few
bare_filter-requires-clause-few c =
    few_at c.args.blocks.now c.args.spent.now c.args.i c.index-blocks-i.result _ c.as_slice.result.now _ c.requires.within c.requires.kept.good.each c.requires.kept.taken
    c.index-blocks-i.is (c.as_slice.ensures ∙ c.index-spent-i.is)
