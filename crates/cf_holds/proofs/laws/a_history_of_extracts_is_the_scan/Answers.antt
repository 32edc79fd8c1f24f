use Rattle.cf_holds.proofs.Tables.{history_over}
use Rattle.cf_holds.proofs.laws.a_history_of_extracts_is_the_scan.Goals as goal

pub returns : goal.returns
returns c = history_over
