use Rattle.cf_chain.specs.Heights.{all_blocks}
use Rattle.cf_server.proofs.Walking.{taken_header}
use Rattle.cf_server.proofs.frames.headers_from.Goals as goal

pub loop-i-preserved : goal.loop-i-preserved
loop-i-preserved c =
    taken_header (all_blocks c.args.index.now) c.args.start c.loop-i.i c.header.result c.loop-i.headers c.push_some.new.list c.header.ensures c.loop-i.invariant c.in_ok-push_some.ensures
