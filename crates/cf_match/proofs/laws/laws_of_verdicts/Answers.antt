use Rattle.cf_match.proofs.Missing.{missed, misses_so, none_of, stays}
use Rattle.cf_match.proofs.laws.laws_of_verdicts.Goals as goal

pub returns-clause-missed : goal.returns-clause-missed
returns-clause-missed c = missed

pub returns-clause-misses : goal.returns-clause-misses
returns-clause-misses c = misses_so

pub returns-clause-none : goal.returns-clause-none
returns-clause-none c = none_of

pub returns-clause-stays : goal.returns-clause-stays
returns-clause-stays c = stays
