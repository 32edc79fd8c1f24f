use Rattle.cf_index.proofs.Taking.{found_if}
use Rattle.cf_index.proofs.file.take_next.Goals as goal

pub returns-in-Ok-block_of-clause-found : goal.returns-in-Ok-block_of-clause-found
returns-in-Ok-block_of-clause-found c =
    found_if c.args.chain.blocks c.args.cut.now c.in-Ok.text.now c.take_record.new.cut c.in-Ok-block_of.block c.put_on_chain.result c.in-Ok.ensures.found.0 c.in-Ok.ensures.found.1
    c.in-Ok-block_of.ensures.found c.put_on_chain.ensures.more
