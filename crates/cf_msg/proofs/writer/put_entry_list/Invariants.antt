use Rattle.std.proofs.Common.{◌≡◌, ◌++◌, drop}
use Rattle.std.specs.List.{flat_map}
use Rattle.cf_msg.specs.Message.{entry_spelling}
use Rattle.cf_msg.proofs.writer.put_entry_list.Given as goal

abbrev pub invariant-loop-entry : goal.invariant-loop-entry
invariant-loop-entry l = l.out.items ++ flat_map entry_spelling (drop l.entry-index l.entries) ≡ l.fn.out.items ++ flat_map entry_spelling l.entries
