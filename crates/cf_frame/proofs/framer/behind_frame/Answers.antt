use Rattle.std.proofs.Common.{sym, ◌∙◌}
use Rattle.std.specs.Int.{w32, to_le_bytes}
use Rattle.cf_frame.proofs.Lending.{behind_parts}
use Rattle.cf_frame.proofs.framer.behind_frame.Goals as goal

pub returns-clause-ends : goal.returns-clause-ends
returns-clause-ends c =
    let h = c.in-Ok.header in
    rw c.rest.ensures
    (behind_parts c.args.bytes.now h.magic h.command
    (to_le_bytes w32 h.len) h.checksum c.read_header.new.cut c.in-Ok-bytes.field-0.now c.bytes.new.self
    (sym c.new-cut.ensures ∙ c.in-Ok.ensures.found.0) c.in-Ok-bytes.ensures.found.0)
