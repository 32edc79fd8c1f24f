-- statement: what a session holds.
use Rattle.std.specs.Prelude.{◌≡◌, ◌+◌, ◌≤◌, true, length, map, string_bytes}
use Rattle.std.specs.List.{list_all}
use Rattle.cf_wires.specs.Log.{is_real}
use Rattle.cf_wires.specs.Wires.{WireScript}
use Rattle.cf_wires.specs.declared.event.Dial.{Dial}
use Rattle.cf_input.specs.declared.session.Session.{Session}
use Rattle.cf_bytes.specs.Peers.{most_peers}
use Rattle.cf_input.specs.SessionFile.{lines_in}

-- what wires in memory are made to give by a session: its dials and its deliveries
abbrev pub script_in : Session → WireScript
script_in s = record { dials = s.dials.items; deliveries = s.deliveries.items }

-- the names are those of the dials
abbrev pub AreNamed : Session → Type 0
AreNamed s = map string_bytes s.names.items ≡ map (λ (d : Dial). d.name) s.dials.items

-- a line was added: one more stands there, and the session is still one whose dials are few, whose names are those of the dials, and whose deliveries are real
pub record AddsLine (before after : Session) : Type 0 where
  pub more : lines_in (script_in after) ≡ lines_in (script_in before) + 1
  pub few : length after.dials.items ≤ most_peers
  pub named : AreNamed before → AreNamed after
  pub real : list_all is_real before.deliveries.items ≡ true → list_all is_real after.deliveries.items ≡ true
