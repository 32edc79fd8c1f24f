-- statement: when a call on wires may say that the outside failed.
use Rattle.std.specs.Prelude.{ℕ, ◌≤◌, List, Result, IsErrOf}
use Rattle.cf_bytes.specs.Outside.{HasRisen}
use Rattle.cf_wires.specs.declared.event.Delivery.{Delivery}
use Rattle.cf_wires.specs.declared.wires.WireFail.{WireFail}
use Rattle.cf_wires.specs.declared.wires.WireFail.TheVariants.{Failed}
use Rattle.cf_wires.specs.declared.event.Dial.{Dial}

-- the count of faults never falls, and `Failed` is answered only where it rose in this call
pub record HasCause {T : Type 0} (before now : ℕ) (result : Result T WireFail) : Type 0 where
  pub later : before ≤ now
  pub failed : IsErrOf result Failed → HasRisen before now

-- what wires in memory are made to give: how the dials go, in order, and the deliveries
pub record WireScript : Type 0 where
  pub dials : List Dial
  pub deliveries : List Delivery

-- a script, and which calls of dial and send are to fail, counted from 1
pub record Made : Type 0 where
  pub script : WireScript
  pub failing : List ℕ
