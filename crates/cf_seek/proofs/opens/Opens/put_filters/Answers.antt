use Rattle.std.proofs.Common.{arith}
use Rattle.cf_dispute.specs.Tables.{blocks_of}
use Rattle.cf_seek.proofs.Openings.{on_err, opens_filters_at, opens_some_at, more_at}
use Rattle.cf_seek.proofs.opens.Opens.put_filters.Goals as goal

pub returns-clause-ok : goal.returns-clause-ok
returns-clause-ok c = opens_filters_at c.args.self.now.peers.items c.args.p.0 _ c.put_filters.new.self _ (blocks_of c.args.blocks.now) (omega (arith, c.requires, c.args.self.now.nine, c.args.self.now.peers.ok)) c.index_mut.ensures.value
    c.in_ok-put_filters.ensures.there c.put_filters.ensures.stays c.put_filters.ensures.only c.put_filters.ensures.block

pub returns-clause-more : goal.returns-clause-more
returns-clause-more c = more_at c.args.self.now.peers.items c.args.p.0 _ c.put_filters.new.self _ (omega (arith, c.requires, c.args.self.now.nine, c.args.self.now.peers.ok)) c.index_mut.ensures.value c.put_filters.ensures.stays c.put_filters.ensures.block

pub returns-in_err-put_filters-clause-more : goal.returns-in_err-put_filters-clause-more
returns-in_err-put_filters-clause-more c = more_at c.args.self.now.peers.items c.args.p.0 _ c.put_filters.new.self _ (omega (arith, c.requires, c.args.self.now.nine, c.args.self.now.peers.ok)) c.index_mut.ensures.value c.put_filters.ensures.stays c.put_filters.ensures.block

pub returns-in_err-put_filters-clause-err : goal.returns-in_err-put_filters-clause-err
returns-in_err-put_filters-clause-err c = on_err c.from_residual.result (opens_some_at c.args.self.now.peers.items c.args.p.0 _ c.put_filters.new.self _ (blocks_of c.args.blocks.now) (omega (arith, c.requires, c.args.self.now.nine, c.args.self.now.peers.ok)) c.index_mut.ensures.value
    c.put_filters.ensures.stays c.put_filters.ensures.only c.put_filters.ensures.block)
