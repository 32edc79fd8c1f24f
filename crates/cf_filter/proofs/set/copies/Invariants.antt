use Rattle.std.proofs.Common.{◌≡◌, take}
use Rattle.cf_filter.specs.Items.{texts}
use Rattle.cf_filter.proofs.set.copies.Given as goal

abbrev pub invariant-loop-script : goal.invariant-loop-script
invariant-loop-script l = texts l.copies.items ≡ take l.script-index l.scripts
