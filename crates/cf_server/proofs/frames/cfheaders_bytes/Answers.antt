use Rattle.std.proofs.Common.{◌≡◌, suc, ◌+◌, ◌-◌, map, take, drop, ◌∙◌, ap, arith}
use Rattle.cf_filter.specs.Filter.{filter_hash_of}
use Rattle.cf_chain.specs.Filters.{Filtered, filters_of}
use Rattle.cf_server.proofs.Fitting.{cfheaders_small}
use Rattle.cf_server.proofs.frames.cfheaders_bytes.Goals as goal

pub message_bytes-requires-clause-limits : goal.message_bytes-requires-clause-limits
message_bytes-requires-clause-limits c =
    let count : (c.args.stop_height - c.args.start) + 1 ≡ suc c.args.stop_height - c.args.start = omega arith in
    let are = c.in_ok-hashes.ensures ∙ ap (λ n. map (λ (f : Filtered). record { 0 = filter_hash_of f.filter }) (take n (drop c.args.start (filters_of c.args.index.now)))) count in
    (cfheaders_small c.args.index.now c.args.start c.args.stop_height c.args.stop.now c.header_before.result c.in_ok-hashes.hashes c.requires.good c.requires.there c.requires.few c.header_before.ensures are).0

pub message_bytes-requires-clause-fits : goal.message_bytes-requires-clause-fits
message_bytes-requires-clause-fits c =
    let count : (c.args.stop_height - c.args.start) + 1 ≡ suc c.args.stop_height - c.args.start = omega arith in
    let are = c.in_ok-hashes.ensures ∙ ap (λ n. map (λ (f : Filtered). record { 0 = filter_hash_of f.filter }) (take n (drop c.args.start (filters_of c.args.index.now)))) count in
    (cfheaders_small c.args.index.now c.args.start c.args.stop_height c.args.stop.now c.header_before.result c.in_ok-hashes.hashes c.requires.good c.requires.there c.requires.few c.header_before.ensures are).1
