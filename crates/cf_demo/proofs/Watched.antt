-- The scripts of a demo can be watched.
use Rattle.std.proofs.Common.{◌≡◌, ℕ, List, None, Some, refl, subst}
use Rattle.std.specs.Prelude.{Err}
use Rattle.cf_bytes.specs.declared.memory.Refused.{Refused}
use Rattle.cf_bytes.specs.declared.memory.Refused.TheVariants.{No}
use Rattle.cf_make.specs.Made.{script_of}
use Rattle.cf_scan.specs.declared.watch.WatchFault.{WatchFault}
use Rattle.cf_scan.specs.Watching.{watch_fault_of, GivesWatch}
use Rattle.cf_demo.specs.Demo.{demo_watch}

watchable : watch_fault_of demo_watch ≡ None
unfolding script_of
watchable = refl

pub never_refused : (scripts : List (List ℕ)) (fault : WatchFault) (e : Refused WatchFault) → scripts ≡ demo_watch → e ≡ No fault → GivesWatch (Err e) scripts → ⊥
never_refused scripts fault e are is given =
    let told : watch_fault_of scripts ≡ Some fault = subst (λ (x : Refused WatchFault). GivesWatch (Err x) scripts) is given in
    let one : watch_fault_of demo_watch ≡ Some fault = subst (λ (s : List (List ℕ)). watch_fault_of s ≡ Some fault) are told in
    let none = watchable in
    cc
