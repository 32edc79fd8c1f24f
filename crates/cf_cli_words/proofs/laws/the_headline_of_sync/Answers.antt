use Rattle.cf_cli_words.proofs.Asked.{sync_headline}
use Rattle.cf_cli_words.proofs.laws.the_headline_of_sync.Goals as goal

pub returns : goal.returns
returns c = sync_headline
