use Rattle.cf_cli_headline.proofs.Telling.{kept_headline}
use Rattle.cf_cli_headline.proofs.laws.the_headline_of_a_run.Goals as goal

pub returns : goal.returns
returns c = kept_headline
