use Rattle.cf_seek.specs.OpensAll.{opens_in}
use Rattle.cf_seek.proofs.SoughtStays.{block_more}
use Rattle.cf_seek.proofs.opens.Opens.ask.Goals as goal

pub returns-in-Block-clause-more : goal.returns-in-Block-clause-more
returns-in-Block-clause-more c = λ idle.
    block_more (opens_in c.args.self.now) (opens_in c.put_block.new.self) c.args.p.0 c.in-Block.hash.0 idle c.put_block.ensures
