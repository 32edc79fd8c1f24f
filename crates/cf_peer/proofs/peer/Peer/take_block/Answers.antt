use Rattle.cf_peer.proofs.Peers.{block_holds, block_brought}
use Rattle.cf_peer.proofs.peer.Peer.take_block.Goals as goal

pub returns-clause-holds : goal.returns-clause-holds
returns-clause-holds c = λ t b h is fine. block_holds c.args.self.now b c.args.hash.now t h c.requires is fine

pub returns-clause-brought : goal.returns-clause-brought
returns-clause-brought c = λ t b h is fine. block_brought c.args.self.now b c.args.hash.now t h c.requires is fine
