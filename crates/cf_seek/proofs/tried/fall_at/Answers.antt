use Rattle.cf_seek.proofs.Below.{put_under, under_none}
use Rattle.cf_seek.proofs.tried.fall_at.Goals as goal

pub returns-then-mark-eq0-clause-here : goal.returns-then-mark-eq0-clause-here
returns-then-mark-eq0-clause-here g c =
    under_none (g.H.HeaderStore.chain c.args.store.now c.args.p.0) c.args.block.now.0 c.of-mark.result _
    c.of-mark.ensures c.if-mark-eq0.true

pub returns-clause-here : goal.returns-clause-here
returns-clause-here g c =
    put_under (g.H.HeaderStore.chain c.args.store.now c.args.p.0) c.args.tried.now c.put.new.self
    c.args.p.0 c.args.block.now.0 c.of-mark.result c.passed_below.result c.requires
    c.put.ensures c.of-mark.ensures c.if-mark-eq0.false c.passed_below.ensures.is
