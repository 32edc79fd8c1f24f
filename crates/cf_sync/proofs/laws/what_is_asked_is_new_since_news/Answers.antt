use Rattle.cf_sync.proofs.Fresh.{headers_not_since_news, block_not_again, pings_are_low, ping_not_again}
use Rattle.cf_sync.proofs.FreshClaims.{claims_not_again}
use Rattle.cf_sync.proofs.FreshFilters.{filters_not_again, filters_not_planned}
use Rattle.cf_sync.proofs.FreshTests.{tests_not_again, tests_not_planned}
use Rattle.cf_sync.proofs.laws.what_is_asked_is_new_since_news.Goals as goal

pub returns-clause-headers : goal.returns-clause-headers
returns-clause-headers c = headers_not_since_news

pub returns-clause-claims : goal.returns-clause-claims
returns-clause-claims c = claims_not_again

pub returns-clause-filters : goal.returns-clause-filters
returns-clause-filters c = filters_not_again

pub returns-clause-tests : goal.returns-clause-tests
returns-clause-tests c = tests_not_again

pub returns-clause-planned : goal.returns-clause-planned
returns-clause-planned c = filters_not_planned

pub returns-clause-planned_tests : goal.returns-clause-planned_tests
returns-clause-planned_tests c = tests_not_planned

pub returns-clause-block : goal.returns-clause-block
returns-clause-block c = block_not_again

pub returns-clause-numbers : goal.returns-clause-numbers
returns-clause-numbers c = pings_are_low

pub returns-clause-ping : goal.returns-clause-ping
returns-clause-ping c = ping_not_again
