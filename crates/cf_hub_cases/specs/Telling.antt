-- statement: what comes over a hub whose outside tells all that it gives.
use Rattle.std.specs.Prelude.{◌≡◌, ℕ, zero, suc, Bool, List, [], ◌∷◌, ◌++◌, Option, Some}
use Rattle.std.specs.List.{slice_get}
use Rattle.cf_wires.specs.declared.event.Delivery.{Delivery}
use Rattle.cf_wires.specs.Log.{Log, Told, deliveries}
use Rattle.cf_hub.specs.Gives.{pieces_of, has_gone, ticks_of}
use Rattle.cf_hub.specs.Writers.{texts}
use Rattle.cf_hub_cases.specs.declared.outside.PlannedWriter.{PlannedWriter}

-- the numbers from 1 to n
abbrev pub up_to : ℕ → List ℕ
up_to zero = []
up_to (suc n) = up_to n ++ suc n ∷ []

-- what came: the bytes of the first peer, whether it has gone, and the seconds
pub record Coming : Type 0 where
  pub bytes : List ℕ
  pub gone : Bool
  pub ticks : List ℕ

-- what came is what these deliveries hold of the first peer and of the pulse
abbrev pub Holds : Coming → List Delivery → Type 0
Holds c ds = (c.bytes ≡ pieces_of 1 ds) × (c.gone ≡ has_gone 1 ds) × (c.ticks ≡ ticks_of ds)

-- the log is kept, and what came is what its deliveries hold
abbrev pub Keeps : Told → Coming → Type 0
Keeps t c = (log : Log) × (t.log ≡ Some log) × Holds c (deliveries log)

-- the first peer's writer tells that these bytes were written to it
abbrev pub HasText : List (Option PlannedWriter) → List ℕ → Type 0
HasText ws bytes = slice_get (texts (λ (w : PlannedWriter). Some w.sink.bytes) ws) 1 ≡ Some (Some (Some bytes))
