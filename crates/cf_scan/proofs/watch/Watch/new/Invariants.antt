use Rattle.std.proofs.Common.{◌≡◌, [], take, drop}
use Rattle.cf_scan.specs.Watching.{first_fault}
use Rattle.cf_scan.proofs.watch.Watch.new.Given as goal

abbrev pub invariant-loop-script : goal.invariant-loop-script
invariant-loop-script l = record {
  watch : l.watch ≡ take l.script-index l.scripts;
  rest : first_fault (take l.script-index l.scripts) (drop l.script-index l.scripts) ≡ first_fault [] l.scripts;
}
