use Rattle.std.proofs.Common.{arith}
use Rattle.cf_seek.proofs.Openings.{opens_block_at}
use Rattle.cf_seek.proofs.opens.Opens.put_block.Goals as goal

pub returns : goal.returns
returns c = opens_block_at c.args.self.now.peers.items c.args.p.0 _ c.put_block.new.self _ c.args.block.now.0 (omega (arith, c.requires, c.args.self.now.nine, c.args.self.now.peers.ok)) c.index_mut.ensures.value c.put_block.ensures.filters c.put_block.ensures.block
