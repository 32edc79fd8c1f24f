use Rattle.cf_filter.proofs.Among.{items_sorted, items_few, members_are, one_set}
use Rattle.cf_filter.proofs.laws.laws_of_items.Goals as goal

pub returns-clause-sorted : goal.returns-clause-sorted
returns-clause-sorted c = items_sorted

pub returns-clause-members : goal.returns-clause-members
returns-clause-members c = members_are

pub returns-clause-one : goal.returns-clause-one
returns-clause-one c = one_set

pub returns-clause-few : goal.returns-clause-few
returns-clause-few c = items_few
