use Rattle.std.proofs.Common.{rules, ◌≡◌, ◌≤◌, length, arith}
use Rattle.cf_played.proofs.Written.{other_filter}
use Rattle.cf_played.proofs.omitting.cfilter_with.Goals as goal

pub returns : goal.returns
returns c =
    let hash : length c.args.block.0 ≡ 32 = search rules in
    let few : length c.args.bytes ≤ 3999900 = omega (arith, c.len.ensures, c.if-len-gt-MOST_BYTES.false) in
    other_filter c.args.block c.args.bytes hash few
