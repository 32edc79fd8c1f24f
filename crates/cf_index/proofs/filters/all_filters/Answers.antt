use Rattle.std.proofs.Common.{length, ◌≤◌, arith}
use Rattle.cf_index.proofs.Heading.{head_all}
use Rattle.cf_index.proofs.filters.all_filters.Goals as goal

pub returns : goal.returns
returns g c =
    let blocks = c.args.blocks.now in
    let count = c.loop-count.count in
    let past : length blocks ≤ count = omega arith in
    head_all blocks count _ _ _ past c.from_vec.ensures (c.in_ok-all.ensures blocks c.args.spent.now count c.requires.kept.taken c.loop-count.invariant.within c.loop-count.invariant.built)
