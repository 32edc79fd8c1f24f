use Rattle.cf_lists.proofs.Tables.{fresh_told}
use Rattle.cf_lists.proofs.lists.Lists.new.Goals as goal

pub invariant_of-result-clause-told : goal.invariant_of-result-clause-told
invariant_of-result-clause-told c = fresh_told c.loop-i.slots.items c.in_ok-commons.commons.items (c.in_ok-commons.ensures.items_if_clones_equal (λ y e. e)) c.loop-i.invariant.empty
