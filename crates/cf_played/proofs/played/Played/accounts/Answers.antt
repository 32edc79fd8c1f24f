use Rattle.cf_played.specs.Told.{log_of}
use Rattle.cf_played.proofs.Accounts.{told_alike, told_now, told_past, told_ticks}
use Rattle.cf_played.proofs.played.Played.accounts.Goals as goal

pub returns-clause-now : goal.returns-clause-now
returns-clause-now c = told_now (log_of c.args.self.now) c.args.self.now.players.items c.args.self.now.accounts

pub returns-clause-past : goal.returns-clause-past
returns-clause-past c = told_past (log_of c.args.self.now) c.args.self.now.players.items c.args.self.now.accounts

pub returns-clause-ticks : goal.returns-clause-ticks
returns-clause-ticks c = told_ticks (log_of c.args.self.now) c.args.self.now.players.items c.args.self.now.accounts

pub returns-clause-alike : goal.returns-clause-alike
returns-clause-alike c = told_alike (log_of c.args.self.now) c.args.self.now.players.items c.args.self.now.accounts
