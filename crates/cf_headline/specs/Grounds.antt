-- statement: what a client has done by its log, on which the headline rests.
use Rattle.std.specs.Prelude.{◌≡◌, ℕ, true, List, [], ◌∷◌}
use Rattle.cf_bytes.specs.declared.hash.Hash32.{Hash32}
use Rattle.cf_bytes.specs.Cut.{IsBytes}
use Rattle.cf_peer.specs.Trail.{trail, is_greeted}
use Rattle.cf_scan.specs.declared.history.Entry.{Entry}
use Rattle.cf_scan.specs.HistoryText.{history_text}
use Rattle.cf_wires.specs.declared.event.Event.TheVariants.{Sent, Took}
use Rattle.cf_wires.specs.Log.{Log}
use Rattle.cf_sync.specs.Fetching.{IsConnected, IsQuiet}
use Rattle.cf_sync.specs.Sync.{HasAsked}

-- whenever a delivery was taken, each connected peer had been sent the client's version
abbrev pub WereGreeted : Log → Type 0
WereGreeted [] = Unit {0}
WereGreeted (Took d ∷ log) = ((p : ℕ) → IsConnected log p → is_greeted (trail log p) ≡ true) × WereGreeted log
WereGreeted (_ ∷ log) = WereGreeted log

-- what was sent were bytes
abbrev pub WereBytes : Log → Type 0
WereBytes [] = Unit {0}
WereBytes (Sent p bytes ∷ log) = IsBytes bytes × WereBytes log
WereBytes (_ ∷ log) = WereBytes log

-- a client that has asked all that it may, with nothing open, has written this text
pub record HasWritten (scripts : List (List ℕ)) (text : List ℕ) (log : Log) : Type 0 where
  pub height : ℕ
  pub hash : Hash32
  pub entries : List Entry
  pub asked : HasAsked scripts height hash entries log
  pub quiet : IsQuiet log
  pub written : text ≡ history_text entries height hash.0
