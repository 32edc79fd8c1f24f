use Rattle.cf_view.proofs.WalkLemmas.{walked_more}
use Rattle.cf_view.proofs.commitment.walk.Goals as goal

pub loop-tx-preserved : goal.loop-tx-preserved
loop-tx-preserved c =
    walked_more c.args.b.now.txs c.loop-tx.txs c.next.new.self c.in-Some.tx c.loop-tx.level.items c.push.new.self.items
    c.loop-tx.is_long c.txid.result c.len.result
    c.in-Some.ensures c.txid.ensures c.in_ok-push.ensures.items c.len.ensures c.loop-tx.invariant
