use Rattle.std.proofs.Common.{◌≡◌, ◌++◌, take, reverse, string_bytes}
use Rattle.std.specs.List.{flat_map}
use Rattle.cf_wires.specs.Log.{dials}
use Rattle.cf_wires.specs.Session.{dial_line}
use Rattle.cf_wires.proofs.session.put_dials.Given as goal

abbrev pub invariant-loop-event : goal.invariant-loop-event
invariant-loop-event l = string_bytes l.text ≡ string_bytes l.fn.text ++ flat_map dial_line (dials (reverse (take l.event-index l.events)))
