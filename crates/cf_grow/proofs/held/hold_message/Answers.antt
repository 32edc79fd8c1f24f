use Rattle.std.proofs.Common.{◌∙◌}
use Rattle.cf_grow.proofs.Holding.{held_message}
use Rattle.cf_grow.proofs.held.hold_message.Goals as goal

pub returns : goal.returns
returns c =
    held_message c.args.told.now.items c.extend_from_slice.new.self.items c.args.msg.now c.deref.result.now c.in_ok-extend_from_slice.ensures.items
    (c.deref.ensures.value ∙ c.in_ok-bytes.ensures)
