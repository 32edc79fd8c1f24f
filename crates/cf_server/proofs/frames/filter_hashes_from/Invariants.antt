use Rattle.std.proofs.Common.{◌≡◌, map, take, drop}
use Rattle.cf_filter.specs.Filter.{filter_hash_of}
use Rattle.cf_chain.specs.Filters.{filters_of}
use Rattle.cf_server.proofs.frames.filter_hashes_from.Given as goal

abbrev pub invariant-loop-i : goal.invariant-loop-i
invariant-loop-i l = l.hashes ≡ map (λ f. record { 0 = filter_hash_of f.filter }) (take l.i (drop l.start (filters_of l.index)))
