use Rattle.cf_plain.proofs.Syncing.{sync_command}
use Rattle.cf_plain.proofs.laws.the_words_of_sync.Goals as goal

pub returns : goal.returns
returns c = sync_command
