use Rattle.std.proofs.Common.{rules, ◌≡◌, ◌≤◌, length, arith}
use Rattle.cf_played.proofs.Written.{other_hashes}
use Rattle.cf_played.proofs.omitting.cfheaders.Goals as goal

pub returns : goal.returns
returns c =
    let hash : length c.args.stop.0 ≡ 32 = search rules in
    let hashes = c.in_ok-hashes.hashes in
    let few : length hashes ≤ 2000 = omega (arith, c.in_ok-hashes.ensures.len, c.requires, c.min-end.ensures, c.min-first.ensures) in
    other_hashes c.args.stop c.header_before.result hashes hash c.header_before.ensures few c.in_ok-hashes.ensures.each
