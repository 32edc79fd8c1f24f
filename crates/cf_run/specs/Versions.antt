-- statement: which versions were sent.
use Rattle.std.specs.Prelude.{IfSome}
use Rattle.std.specs.List.{AllByRecursion}
use Rattle.cf_wires.specs.declared.event.Event.{Event}
use Rattle.cf_wires.specs.declared.event.Event.TheVariants.{Dialled, NotDialled, Sent, SendFailed, Closed, Took}
use Rattle.cf_wires.specs.Log.{Log, Told}
use Rattle.cf_peer.specs.Trail.{spelled}
use Rattle.cf_place.specs.Standing.{Greeting, TellsGreeting}

-- what was sent tells this greeting, where it is a version
abbrev pub EntryTells : Greeting → Event → Type 0
EntryTells greeting (Dialled p name) = Unit {0}
EntryTells greeting (NotDialled p name) = Unit {0}
EntryTells greeting (Sent p bytes) = IfSome (spelled bytes) (TellsGreeting greeting)
EntryTells greeting (SendFailed p) = Unit {0}
EntryTells greeting (Closed p) = Unit {0}
EntryTells greeting (Took d) = Unit {0}

-- each version that was sent tells this greeting
abbrev pub IsOfGreeting : Greeting → Log → Type 0
IsOfGreeting greeting log = AllByRecursion (EntryTells greeting) log

-- the same, where the log is told
abbrev pub HasGreeting : Greeting → Told → Type 0
HasGreeting greeting t = IfSome t.log (IsOfGreeting greeting)

-- from one state of the wires to a later one no version was sent that tells another greeting
abbrev pub KeepsGreeting : Greeting → Told → Told → Type 0
KeepsGreeting greeting t u = HasGreeting greeting t → HasGreeting greeting u
