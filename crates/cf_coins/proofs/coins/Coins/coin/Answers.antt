use Rattle.std.proofs.Common.{sym, ◌∙◌}
use Rattle.cf_coins.proofs.CoinMaps.{got}
use Rattle.cf_coins.proofs.coins.Coins.coin.Goals as goal

pub returns : goal.returns
returns c = rw c.self.view_is at (c.get.ensures.value ∙ sym (got c.self.inside.map.entries c.args.name.now))
