use Rattle.cf_cli_words.proofs.Asked.{replay_headline}
use Rattle.cf_cli_words.proofs.laws.the_headline_of_replay.Goals as goal

pub returns : goal.returns
returns c = replay_headline
