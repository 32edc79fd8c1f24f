use Rattle.cf_plain.proofs.Replaying.{replay_command}
use Rattle.cf_plain.proofs.laws.the_words_of_replay.Goals as goal

pub returns : goal.returns
returns c = replay_command
