use Rattle.std.proofs.Common.{◌≡◌, take, map}
use Rattle.cf_filter.specs.Filter.{value_under}
use Rattle.cf_filter.proofs.key.fill.Given as goal

abbrev pub invariant-loop-i : goal.invariant-loop-i
invariant-loop-i l = take l.i l.values ≡ map (value_under l.key.k0 l.key.k1 l.n) (take l.i l.scripts)
