use Rattle.cf_scan.proofs.BalanceLaws.{balance_is_total}
use Rattle.cf_scan.proofs.HistoryLaws.{history_is_scan, history_without_idle}
use Rattle.cf_scan.proofs.laws.laws_of_histories.Goals as goal

pub returns : goal.returns
returns c = record { scan = history_is_scan; idle = history_without_idle; balance = balance_is_total }
