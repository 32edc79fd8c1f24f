use Rattle.std.proofs.Common.{◌≡◌, ◌++◌, take, reverse, string_bytes}
use Rattle.cf_wires.specs.Session.{delivery_lines}
use Rattle.cf_wires.proofs.session.put_deliveries.Given as goal

abbrev pub invariant-loop-event : goal.invariant-loop-event
invariant-loop-event l = string_bytes l.text ≡ string_bytes l.fn.text ++ delivery_lines (reverse (take l.event-index l.events))
