use Rattle.std.proofs.Common.{◌≡◌, ◌++◌, drop}
use Rattle.std.specs.List.{flat_map}
use Rattle.cf_msg.specs.Message.{item_spelling}
use Rattle.cf_msg.proofs.writer.put_headers.Given as goal

abbrev pub invariant-loop-header : goal.invariant-loop-header
invariant-loop-header l = l.out.items ++ flat_map item_spelling (drop l.header-index l.headers) ≡ l.fn.out.items ++ flat_map item_spelling l.headers
