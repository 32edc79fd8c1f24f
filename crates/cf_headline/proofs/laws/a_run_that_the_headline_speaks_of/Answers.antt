use Rattle.cf_headline.proofs.Worked.{has_written, longest, serving, were_greeted}
use Rattle.cf_headline.proofs.laws.a_run_that_the_headline_speaks_of.Goals as goal

pub returns-clause-serving : goal.returns-clause-serving
returns-clause-serving c = serving

pub returns-clause-longest : goal.returns-clause-longest
returns-clause-longest c = longest

pub returns-clause-greeted : goal.returns-clause-greeted
returns-clause-greeted c = were_greeted

pub returns-clause-written : goal.returns-clause-written
returns-clause-written c = has_written
