-- statement: what the record of a run reads as.
use Rattle.std.specs.Prelude.{◌≡◌, ℕ, ◌<◌, ◌≤◌, true, List, [], ◌∷◌, ◌++◌, length}
use Rattle.hex.specs.Hex.{IsBytes}
use Rattle.cf_wires.specs.declared.event.Delivery.{Delivery}
use Rattle.cf_wires.specs.declared.event.Delivery.TheVariants.{Got, Gone, Tick, Ended}
use Rattle.cf_wires.specs.declared.event.Dial.{Dial}
use Rattle.cf_wires.specs.declared.event.Event.TheVariants.{SendFailed, Took}
use Rattle.cf_wires.specs.Log.{Log, dials, with_delivery}
use Rattle.cf_wires.specs.Wires.{WireScript}
use Rattle.cf_input.specs.Name.{is_name}
use Rattle.cf_bytes.specs.Peers.{most_peers}
use Rattle.cf_input.specs.SessionFile.{most_seconds}

-- what the session lines of a log tell of its deliveries: a failed send is told as a peer that has gone
abbrev pub told_deliveries : Log → List Delivery
told_deliveries [] = []
told_deliveries (Took d ∷ log) = with_delivery d (told_deliveries log)
told_deliveries (SendFailed p ∷ log) = told_deliveries log ++ Gone p ∷ []
told_deliveries (_ ∷ log) = told_deliveries log

-- the dials and the deliveries that they tell
abbrev pub told_script : Log → WireScript
told_script log = record { dials = dials log; deliveries = told_deliveries log }

abbrev pub AreNames : List Dial → Type 0
AreNames [] = Unit {0}
AreNames (d ∷ ds) = (is_name d.name ≡ true) × AreNames ds

-- a delivery that a session of so many peers may have
abbrev pub IsOfSession : ℕ → Delivery → Type 0
IsOfSession peers (Got p piece) = (1 ≤ p.0) × (p.0 ≤ peers) × (0 < length piece) × IsBytes piece
IsOfSession peers (Gone p) = (1 ≤ p.0) × (p.0 ≤ peers)
IsOfSession peers (Tick seconds) = (1 ≤ seconds) × (seconds ≤ most_seconds)
IsOfSession peers Ended = ⊥

abbrev pub AreOfSession : ℕ → List Delivery → Type 0
AreOfSession peers [] = Unit {0}
AreOfSession peers (d ∷ ds) = IsOfSession peers d × AreOfSession peers ds

-- one to eight peers with names were dialled, and what was delivered may stand in a session
pub record IsRetold (log : Log) : Type 0 where
  pub some : 0 < length (dials log)
  pub few : length (dials log) ≤ most_peers
  pub names : AreNames (dials log)
  pub delivered : AreOfSession (length (dials log)) (told_deliveries log)
