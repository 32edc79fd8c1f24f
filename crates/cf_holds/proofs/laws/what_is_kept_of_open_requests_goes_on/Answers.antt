use Rattle.cf_holds.proofs.KeptOpens.{opens_put, opens_filters, opens_block, opens_closed, opens_same}
use Rattle.cf_sync.proofs.Alone.{alone_less}
use Rattle.cf_holds.proofs.laws.what_is_kept_of_open_requests_goes_on.Goals as goal

pub returns-clause-put : goal.returns-clause-put
returns-clause-put c = opens_put

pub returns-clause-filters : goal.returns-clause-filters
returns-clause-filters c = opens_filters

pub returns-clause-block : goal.returns-clause-block
returns-clause-block c = opens_block

pub returns-clause-closed : goal.returns-clause-closed
returns-clause-closed c = opens_closed

pub returns-clause-same : goal.returns-clause-same
returns-clause-same c = opens_same

pub returns-clause-plan : goal.returns-clause-plan
returns-clause-plan c = alone_less
