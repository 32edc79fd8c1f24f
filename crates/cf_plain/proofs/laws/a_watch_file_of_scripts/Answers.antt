use Rattle.cf_plain.proofs.Watching.{watch_again}
use Rattle.cf_plain.proofs.laws.a_watch_file_of_scripts.Goals as goal

pub returns : goal.returns
returns c = watch_again
