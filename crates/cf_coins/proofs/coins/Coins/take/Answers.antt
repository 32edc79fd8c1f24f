use Rattle.std.proofs.Common.{sym, ◌∙◌}
use Rattle.cf_block.proofs.Outpoints.{outpoint_total, outpoint_same}
use Rattle.cf_coins.proofs.CoinMaps.{got}
use Rattle.cf_coins.proofs.Maps.{removed}
use Rattle.cf_coins.proofs.coins.Coins.take.Goals as goal

pub returns-clause-value : goal.returns-clause-value
returns-clause-value c = rw c.self.view_is at (c.remove.ensures.value ∙ sym (got c.self.inside.map.entries c.args.name))

pub returns-clause-after : goal.returns-clause-after
returns-clause-after c = rw (← c.self.view_is) (removed outpoint_total outpoint_same c.self.inside.map.entries c.remove.new.self.entries c.args.name c.remove.ensures.updates.0)
