-- statement: the session lines of what passed the wires.
use Rattle.std.specs.Prelude.{ℕ, Bool, true, false, List, [], ◌∷◌, ◌++◌, codes}
use Rattle.std.specs.Fmt.{decimal}
use Rattle.std.specs.List.{flat_map}
use Rattle.hex.specs.Hex.{encode_lower}
use Rattle.cf_wires.specs.declared.event.Delivery.{Delivery}
use Rattle.cf_wires.specs.declared.event.Delivery.TheVariants.{Got, Gone, Tick, Ended}
use Rattle.cf_wires.specs.declared.event.Dial.{Dial}
use Rattle.cf_wires.specs.declared.event.Event.{Event}
use Rattle.cf_wires.specs.declared.event.Event.TheVariants.{Dialled, NotDialled, Sent, SendFailed, Closed, Took}
use Rattle.cf_wires.specs.Log.{Log, dials}

-- dial NAME where it was answered, and else nodial NAME, ended by LF
abbrev pub dial_word : Bool → List ℕ
dial_word true = codes "dial "
dial_word false = codes "nodial "

-- the line of a dial in a session
abbrev pub dial_line : Dial → List ℕ
dial_line d = dial_word d.answered ++ (d.name ++ 10 ∷ [])

-- got P HEX
abbrev pub got_line : ℕ → List ℕ → List ℕ
got_line p piece = codes "got " ++ (decimal p ++ (codes " " ++ (encode_lower piece ++ 10 ∷ [])))

-- gone P
abbrev pub gone_line : ℕ → List ℕ
gone_line p = codes "gone " ++ (decimal p ++ 10 ∷ [])

-- tick SECONDS
abbrev pub tick_line : ℕ → List ℕ
tick_line seconds = codes "tick " ++ (decimal seconds ++ 10 ∷ [])

-- the line of a delivery; the end has none
abbrev pub delivery_line : Delivery → List ℕ
delivery_line (Got p piece) = got_line p.0 piece
delivery_line (Gone p) = gone_line p.0
delivery_line (Tick s) = tick_line s
delivery_line Ended = []

-- the line of an entry: a failed send is told as a peer that has gone, and a dial stands elsewhere
abbrev pub event_line : Event → List ℕ
event_line (Took d) = delivery_line d
event_line (SendFailed p) = gone_line p.0
event_line (Dialled p name) = []
event_line (NotDialled p name) = []
event_line (Sent p bytes) = []
event_line (Closed p) = []

-- the lines of the deliveries and the failed sends, in the order in which they passed
abbrev pub delivery_lines : Log → List ℕ
delivery_lines [] = []
delivery_lines (e ∷ log) = delivery_lines log ++ event_line e

-- the lines of the dials, and then those of the deliveries
abbrev pub session_text : Log → List ℕ
session_text log = flat_map dial_line (dials log) ++ delivery_lines log
