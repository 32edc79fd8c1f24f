use Rattle.std.proofs.Common.{length, ap, arith}
use Rattle.cf_filter.proofs.Among.{items_few}
use Rattle.cf_index.proofs.filters.bare_filter.Goals as goal

pub build-requires : goal.build-requires
build-requires c =
    let few = items_few c.args.block.now c.args.spent.now in
    let same = ap length c.in_ok-items.ensures in
    let most = c.requires.few in
    omega (arith, few, same, most)
