use Rattle.cf_sync.proofs.Dispute.{disputed_honest, disputed_apart, disputed_alone, disputed_asked, disputed_quiet, disputed, disputed_cleared, disputed_wanted, liar_omits}
use Rattle.cf_sync.proofs.laws.a_run_in_which_a_dispute_stands.Goals as goal

pub returns-clause-met : goal.returns-clause-met
returns-clause-met c watch fits = record {
  honest = disputed_honest;
  apart = disputed_apart;
  alone = disputed_alone;
  asked = disputed_asked watch fits;
  quiet = disputed_quiet;
}

pub returns-clause-disputed : goal.returns-clause-disputed
returns-clause-disputed c = disputed

pub returns-clause-cleared : goal.returns-clause-cleared
returns-clause-cleared c = disputed_cleared

pub returns-clause-wanted : goal.returns-clause-wanted
returns-clause-wanted c = disputed_wanted

pub returns-clause-omits : goal.returns-clause-omits
returns-clause-omits c = liar_omits
