use Rattle.std.proofs.Common.{◌<◌, length, ◌∙◌, arith}
use Rattle.rayon.specs.Numbers.{nat_range}
use Rattle.rayon.proofs.ToStd.{nat_range-All}
use Rattle.cf_index.specs.Bare.{IsBareAt}
use Rattle.cf_index.proofs.Gathering.{gathered}
use Rattle.cf_index.proofs.filters.filters_between.Goals as goal

pub collect-requires-clause-ready : goal.collect-requires-clause-ready
collect-requires-clause-ready g c κs within =
    let ends = c.into_par_iter.ensures in
    let inside = nat_range-All (λ i. i < length c.args.blocks.now) c.args.from c.args.to (λ i low high. omega (arith, high, c.requires.within)) in
    rw (c.map.ensures.base, c.map.ensures.f, ends.0, ends.1) (λ k d lt. ((c.requires.kept, inside k d lt), λ y p. tt))

pub returns : goal.returns
returns g c =
    let ends = c.into_par_iter.ensures in
    let h = c.in_ok-all.ensures in
    let chain = rw (c.map.ensures.base, c.map.ensures.f) at h.1 in
    let places = chain.1 ∙ (λ i. nat_range (ends.0 i) (ends.1 i)) in
    rw places at (gathered (IsBareAt c.args.blocks.now c.args.spent.now) chain.0 h.0 c.in_ok-all.all _ chain.2 h.2)
