use Rattle.cf_server.proofs.Fitting.{cfcheckpt_small}
use Rattle.cf_server.proofs.frames.cfcheckpt_bytes.Goals as goal

pub message_bytes-requires-clause-limits : goal.message_bytes-requires-clause-limits
message_bytes-requires-clause-limits c =
    (cfcheckpt_small c.args.index.now c.args.stop_height c.args.stop.now c.in_ok-headers.headers c.requires.good c.requires.there c.in_ok-headers.ensures).0

pub message_bytes-requires-clause-fits : goal.message_bytes-requires-clause-fits
message_bytes-requires-clause-fits c =
    (cfcheckpt_small c.args.index.now c.args.stop_height c.args.stop.now c.in_ok-headers.headers c.requires.good c.requires.there c.in_ok-headers.ensures).1
