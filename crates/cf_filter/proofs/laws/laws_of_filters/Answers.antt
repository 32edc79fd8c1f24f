use Rattle.std.specs.Prelude.{◌==◌, cond}
use Rattle.cf_filter.proofs.Ordered.{is_ascending, sum-ascending}
use Rattle.cf_filter.proofs.Values.{filter_again, filter_taken, member_matches, no_member}
use Rattle.cf_filter.proofs.laws.laws_of_filters.Goals as goal

pub returns-clause-order : goal.returns-clause-order
returns-clause-order c = is_ascending

pub returns-clause-all : goal.returns-clause-all
returns-clause-all c = λ values v. sum-ascending (λ w. cond (w == v) 1 0) values

pub returns-clause-again : goal.returns-clause-again
returns-clause-again c = filter_again

pub returns-clause-taken : goal.returns-clause-taken
returns-clause-taken c = filter_taken

pub returns-clause-members : goal.returns-clause-members
returns-clause-members c = member_matches

pub returns-clause-none : goal.returns-clause-none
returns-clause-none c = no_member
