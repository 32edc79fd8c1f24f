use Rattle.std.proofs.Common.{◌≡◌, ◌≤◌, ◌*◌}
use Rattle.cf_headers.specs.Counts.{heights_below}
use Rattle.cf_lists.specs.Lists.{chains_in}
use Rattle.cf_lists.proofs.lists.ListsHeaderStore.held.Given as goal

abbrev pub invariant-loop-i : goal.invariant-loop-i
invariant-loop-i l = record {
  total : l.total ≡ heights_below l.i (chains_in l.self.slots.items);
  low : l.total ≤ l.i * 1073741824;
}
