use Rattle.std.proofs.Common.{◌≤◌, List, length, sym, subst}
use Rattle.cf_block.specs.declared.header.Header.{Header}
use Rattle.cf_msg.specs.declared.msg.Msg.TheVariants.{Headers}
use Rattle.cf_msg.specs.Message.{payload_of}
use Rattle.cf_server.proofs.Fitting.{headers_small}
use Rattle.cf_server.proofs.frames.headers_bytes.Goals as goal

pub message_bytes-requires-clause-limits : goal.message_bytes-requires-clause-limits
message_bytes-requires-clause-limits c =
    subst (λ (hs : List Header). length hs ≤ 2000) (sym c.in_ok-headers.ensures) (headers_small c.args.index.now c.args.start c.args.count c.requires.good c.requires.few).0

pub message_bytes-requires-clause-fits : goal.message_bytes-requires-clause-fits
message_bytes-requires-clause-fits c =
    subst (λ (hs : List Header). length (payload_of (Headers hs)) ≤ 4000000) (sym c.in_ok-headers.ensures) (headers_small c.args.index.now c.args.start c.args.count c.requires.good c.requires.few).1
