use Rattle.cf_cli_headline.proofs.Telling.{watched_headline}
use Rattle.cf_cli_headline.proofs.laws.the_headline_over_a_watch_file.Goals as goal

pub returns : goal.returns
returns c = watched_headline
