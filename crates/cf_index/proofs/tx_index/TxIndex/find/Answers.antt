use Rattle.std.proofs.Common.{sym, ◌∙◌}
use Rattle.cf_index.proofs.Lowest.{got_height}
use Rattle.cf_index.proofs.tx_index.TxIndex.find.Goals as goal

pub returns : goal.returns
returns c = rw c.self.view_is at (c.copied.ensures ∙ c.get.ensures.value ∙ sym (got_height c.self.inside.map.entries c.args.txid.now))
