use Rattle.cf_filter.specs.Filter.{filter_hash_of}
use Rattle.cf_chain.specs.Filters.{Filtered, filters_of}
use Rattle.cf_server.proofs.Walking.{taken_on}
use Rattle.cf_server.proofs.frames.filter_hashes_from.Goals as goal

pub loop-i-preserved : goal.loop-i-preserved
loop-i-preserved c =
    taken_on (λ (f : Filtered). record { 0 = filter_hash_of f.filter }) (filters_of c.args.index.now) c.args.start c.loop-i.i c.filter_hash.result c.loop-i.hashes c.push_some.new.list
    c.filter_hash.ensures c.loop-i.invariant c.in_ok-push_some.ensures
