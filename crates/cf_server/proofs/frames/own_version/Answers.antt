use Rattle.std.proofs.Common.{◌≤◌, length, refl, ◌∙◌, ap, arith, lit<}
use Rattle.cf_msg.proofs.Sizes.{version_fits}
use Rattle.cf_server.proofs.frames.own_version.Goals as goal

pub message_bytes-requires-clause-fits : goal.message_bytes-requires-clause-fits
message_bytes-requires-clause-fits c =
    let agent : length c.from_vec.result ≤ 3999900 = omega (arith, ap length (c.from_vec.ensures ∙ c.in_ok-agent.ensures.items)) in
    version_fits _ _ _ _ _ _ _ _ _ (record { services = lit< tt; ip = refl; port = lit< tt }) (record { services = lit< tt; ip = refl; port = lit< tt }) agent
