use Rattle.std.proofs.Common.{◌≡◌, ◌++◌, take}
use Rattle.std.specs.List.{flat_map}
use Rattle.cf_chain.specs.Grow.{unknown_entry}
use Rattle.cf_grow.proofs.taking.find_news.Given as goal

abbrev pub invariant-loop-entry : goal.invariant-loop-entry
invariant-loop-entry l = l.out ≡ l.fn.out ++ flat_map (unknown_entry l.index) (take l.entry-index l.entries)
