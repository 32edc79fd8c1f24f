use Rattle.cf_scan.proofs.WatchLaws.{watch_is, watch_from}
use Rattle.cf_scan.proofs.laws.laws_of_watches.Goals as goal

pub returns : goal.returns
returns c = λ scripts. (watch_is scripts, watch_from scripts)
