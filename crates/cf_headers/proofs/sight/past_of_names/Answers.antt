use Rattle.std.proofs.Common.{[]}
use Rattle.slab.specs.Slab.{get}
use Rattle.cf_headers.specs.Chain.{past_of}
use Rattle.cf_headers.specs.Entries.{headers_of, past_through}
use Rattle.cf_headers.specs.Nodes.{entries_along}
use Rattle.cf_headers.proofs.Pasts.{through_name}
use Rattle.cf_headers.proofs.sight.past_of_names.Goals as goal

pub loop-n-preserved : goal.loop-n-preserved
loop-n-preserved c =
    through_name (get c.args.pool.now.nodes) c.args.names.now c.loop-n.n-index c.time_of.result c.loop-n.past c.push.new.self
    (past_through (headers_of (entries_along (get c.args.pool.now.nodes) c.args.names.now)) (past_of [])) c.loop-n-test.true c.time_of.ensures c.push.ensures c.loop-n.invariant
