use Rattle.std.proofs.Common.{◌≡◌, [], drop}
use Rattle.slab.specs.Slab.{get}
use Rattle.cf_headers.specs.Chain.{past_of}
use Rattle.cf_headers.specs.Entries.{headers_of, past_through}
use Rattle.cf_headers.specs.Nodes.{entries_along}
use Rattle.cf_headers.proofs.sight.past_of_names.Given as goal

-- what the names that are left add leads to what all add
abbrev pub invariant-loop-n : goal.invariant-loop-n
invariant-loop-n l =
    past_through (drop l.n-index (headers_of (entries_along (get l.pool.nodes) l.names))) l.past
    ≡ past_through (headers_of (entries_along (get l.fn.pool.nodes) l.fn.names)) (past_of [])
