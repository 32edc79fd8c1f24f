use Rattle.cf_headers.proofs.Places.{BestBelow}
use Rattle.cf_lists.specs.Lists.{chains_in}
use Rattle.cf_lists.proofs.lists.ListsHeaderStore.best.Given as goal

abbrev pub invariant-loop-i : goal.invariant-loop-i
invariant-loop-i l = BestBelow (chains_in l.self.slots.items) l.i l.most l.best
