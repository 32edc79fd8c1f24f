use Rattle.std.proofs.Common.{◌∙◌, ap, arith, length}
use Rattle.cf_server.proofs.Fitting.{cfilter_small}
use Rattle.cf_server.proofs.frames.filter_bytes.Goals as goal

pub message_bytes-requires-clause-fits : goal.message_bytes-requires-clause-fits
message_bytes-requires-clause-fits c =
    let same = ap length (c.from_vec-bytes.ensures ∙ c.in_ok-from_slice.ensures.items) in
    cfilter_small c.args.block c.from_vec-bytes.result (omega arith) (omega (arith, same, c.requires))
