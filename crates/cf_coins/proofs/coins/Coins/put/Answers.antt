use Rattle.std.proofs.Common.{sym, ◌∙◌, ap}
use Rattle.std.specs.Prelude.{is_some}
use Rattle.cf_block.proofs.Outpoints.{outpoint_total, outpoint_same}
use Rattle.cf_coins.proofs.CoinMaps.{got}
use Rattle.cf_coins.proofs.Maps.{inserted}
use Rattle.cf_coins.proofs.coins.Coins.put.Goals as goal

pub returns-clause-stood : goal.returns-clause-stood
returns-clause-stood c = rw c.self.view_is at (c.is_some.ensures ∙ ap is_some (c.in_ok-old.ensures.old ∙ sym (got c.self.inside.map.entries c.args.name)))

pub returns-clause-ok : goal.returns-clause-ok
returns-clause-ok c = rw (← c.self.view_is) (inserted outpoint_total outpoint_same c.self.inside.map.entries c.insert.new.self.entries c.args.name c.args.output c.in_ok-old.ensures.updates.0)
