use Rattle.std.proofs.Common.{◌≡◌, take}
use Rattle.std.specs.Prelude.{string_bytes}
use Rattle.std.specs.List.{flat_map}
use Rattle.cf_scan.specs.HistoryText.{entry_line}
use Rattle.cf_scan.proofs.history.History.text.Given as goal

abbrev pub invariant-loop-entry : goal.invariant-loop-entry
invariant-loop-entry l = record {
  text : string_bytes l.text ≡ flat_map entry_line (take l.entry-index l.entry-items);
}
