use Rattle.std.proofs.Common.{sym, ◌∙◌, arith}
use Rattle.cf_filter.proofs.Ordered.{sorted_rises}
use Rattle.cf_filter.proofs.Values.{count_small, match_fault, match_found}
use Rattle.cf_filter.proofs.matching.matches.Goals as goal

pub returns-in-Err : goal.returns-in-Err
returns-in-Err c = sym (match_fault c.args.block_hash.now.0 c.args.scripts.now c.args.filter.now c.in-Err.fault (sym c.in-Err.ensures))

pub fill-requires-clause-few : goal.fill-requires-clause-few
fill-requires-clause-few c = count_small c.args.filter.now c.in-Ok.n (λ i. omega (arith, c.type_inv.filter i)) (sym c.in-Ok.ensures)

pub meets-requires : goal.meets-requires
meets-requires c = sorted_rises c.sort_unstable.new.self c.sort_unstable.ensures.sorted

pub returns : goal.returns
returns c = c.meets.ensures ∙ match_found c.args.block_hash.now.0 c.args.filter.now c.fill.new.values c.sort_unstable.new.self c.args.scripts.now c.in-Ok.n (sym c.in-Ok.ensures) c.fill.ensures c.sort_unstable.ensures.permutation
