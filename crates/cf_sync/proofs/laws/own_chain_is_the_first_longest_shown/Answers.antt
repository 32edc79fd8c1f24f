use Rattle.cf_sync.proofs.Counted.{own_shown, own_first_longest}
use Rattle.cf_sync.proofs.laws.own_chain_is_the_first_longest_shown.Goals as goal

pub returns-clause-shown : goal.returns-clause-shown
returns-clause-shown c = own_shown

pub returns-clause-first : goal.returns-clause-first
returns-clause-first c = own_first_longest
