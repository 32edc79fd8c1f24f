use Rattle.cf_played.proofs.Checks.{made_good}
use Rattle.cf_played.proofs.laws.laws_of_made_files.Goals as goal

pub returns : goal.returns
returns c = made_good
