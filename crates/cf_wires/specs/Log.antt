-- statement: what passed the wires, and what of it is kept whatever the wires are.
use Rattle.std.specs.Prelude.{◌≡◌, ℕ, ◌+◌, Bool, true, false, List, [], ◌∷◌, ◌++◌, Option, Some, None, IfSome, slice_set, slice_index_or, replicate}
use Rattle.cf_bytes.specs.declared.peer.PeerNo.{PeerNo}
use Rattle.cf_wires.specs.declared.event.Delivery.{Delivery}
use Rattle.cf_wires.specs.declared.event.Delivery.TheVariants.{Got, Gone, Tick, Ended}
use Rattle.cf_wires.specs.declared.event.Dial.{Dial}
use Rattle.cf_wires.specs.declared.event.Event.{Event}
use Rattle.cf_wires.specs.declared.event.Event.TheVariants.{Dialled, NotDialled, Sent, SendFailed, Closed, Took}
use Rattle.cf_wires.specs.declared.event.Mark.{Mark}
use Rattle.cf_wires.specs.declared.event.Mark.TheVariants as mark

-- all that passed the wires, the newest entry first: every proper end of the list is an earlier moment
abbrev pub Log : Type 0
Log = List Event

-- how each peer stands (by its number, 1 to 8), which were closed, how many were dialled, how many deliveries were taken, and how often the end was told
pub record Tally : Type 0 where
  pub marks : List Mark
  pub closed : List Bool
  pub dials : ℕ
  pub taken : ℕ
  pub ended : ℕ

-- a tally with this mark for a peer
abbrev pub marked : Tally → PeerNo → Mark → Tally
marked t p m = record t { marks = slice_set t.marks p.0 m }

-- the tally after one more delivery
abbrev pub noted_delivery : Delivery → Tally → Tally
noted_delivery (Got p piece) t = record t { taken = t.taken + 1 }
noted_delivery (Gone p) t = record (marked t p mark.Gone) { taken = t.taken + 1 }
noted_delivery (Tick s) t = record t { taken = t.taken + 1 }
noted_delivery Ended t = record t { ended = t.ended + 1 }

-- the tally after one more entry
abbrev pub noted : Event → Tally → Tally
noted (Dialled p name) t = record (marked t p mark.Dialled) { dials = t.dials + 1 }
noted (NotDialled p name) t = record (marked t p mark.NotDialled) { dials = t.dials + 1 }
noted (Sent p bytes) t = t
noted (SendFailed p) t = marked t p mark.SendFailed
noted (Closed p) t = record (marked t p mark.Closed) { closed = slice_set t.closed p.0 true }
noted (Took d) t = noted_delivery d t

-- nothing has passed
abbrev pub nothing_yet : Tally
nothing_yet = record { marks = replicate 9 mark.NotYet; closed = replicate 9 false; dials = 0; taken = 0; ended = 0 }

-- the tally of a log
abbrev pub tally_of : Log → Tally
tally_of [] = nothing_yet
tally_of (e ∷ log) = noted e (tally_of log)

-- how the peer with this number stands
abbrev pub mark_of : Tally → ℕ → Mark
mark_of t p = slice_index_or t.marks p mark.NotYet

-- the peer with this number was closed
abbrev pub was_closed : Tally → ℕ → Bool
was_closed t p = slice_index_or t.closed p false

-- what wires tell: the log, or nothing of it, and always the tally and whether they are finished
pub record Told : Type 0 where
  pub log : Option Log
  pub tally : Tally
  pub finished : Bool

-- the log with one entry more, where it is told
abbrev pub longer : Event → Option Log → Option Log
longer e None = None
longer e (Some log) = Some (e ∷ log)

-- what is told after one more entry
abbrev pub tell : Event → Told → Told
tell e t = record { log = longer e t.log; tally = noted e t.tally; finished = t.finished }

-- what is told once the wires are finished
abbrev pub told_finished : Told → Told
told_finished t = record t { finished = true }

-- what the wires tell is this log, or its tally alone
pub record Tells (log : Log) (t : Told) : Type 0 where
  pub content : IfSome t.log (λ l. l ≡ log)
  pub counts : t.tally ≡ tally_of log

-- deliveries with one more behind them, unless it is the end
abbrev pub with_delivery : Delivery → List Delivery → List Delivery
with_delivery (Got p piece) ds = ds ++ Got p piece ∷ []
with_delivery (Gone p) ds = ds ++ Gone p ∷ []
with_delivery (Tick s) ds = ds ++ Tick s ∷ []
with_delivery Ended ds = ds

-- the deliveries of a log in the order in which they came; the end is none of them
abbrev pub deliveries : Log → List Delivery
deliveries [] = []
deliveries (Took d ∷ log) = with_delivery d (deliveries log)
deliveries (_ ∷ log) = deliveries log

-- the dials of a log in order
abbrev pub dials : Log → List Dial
dials [] = []
dials (Dialled p name ∷ log) = dials log ++ record { name = name; answered = true } ∷ []
dials (NotDialled p name ∷ log) = dials log ++ record { name = name; answered = false } ∷ []
dials (_ ∷ log) = dials log

-- a delivery that is not the end
abbrev pub is_real : Delivery → Bool
is_real (Got p piece) = true
is_real (Gone p) = true
is_real (Tick s) = true
is_real Ended = false
