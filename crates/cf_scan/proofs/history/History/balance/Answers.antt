use Rattle.std.proofs.Common.{sym, ◌∙◌, ap}
use Rattle.std.specs.Prelude.{option_copied}
use Rattle.cf_scan.proofs.Balances.{balance_last}
use Rattle.cf_scan.proofs.history.History.balance.Goals as goal

pub returns-in-Some : goal.returns-in-Some
returns-in-Some c = balance_last c.args.self.now c.in-Some.entry.now (rw (c.deref.ensures.value, c.self.view_is) at (ap option_copied (sym c.in-Some.is) ∙ c.last.ensures.value))
