use Rattle.cf_tracker.proofs.Telling.{history_by}
use Rattle.cf_tracker.proofs.account.Account.history.Goals as goal

pub returns : goal.returns
returns c = λ table is. history_by table c.args.self.now c.in_ok-history.history c.in_ok-history.ensures is
