use Rattle.std.proofs.Common.{rules, ◌≡◌, ◌≤◌, length, arith}
use Rattle.cf_played.proofs.Written.{other_checkpoints}
use Rattle.cf_played.proofs.omitting.cfcheckpt.Goals as goal

pub returns : goal.returns
returns c =
    let hash : length c.args.stop.0 ≡ 32 = search rules in
    let headers = c.in_ok-checkpoints.field-0 in
    let few : length headers ≤ 2000 = omega (arith, c.in_ok-checkpoints.ensures.len, c.requires) in
    other_checkpoints c.args.stop headers hash few c.in_ok-checkpoints.ensures.each
