use Rattle.std.proofs.Common.{◌≡◌, ◌++◌, drop}
use Rattle.std.specs.List.{flat_map}
use Rattle.cf_msg.specs.Message.{hash_spelling}
use Rattle.cf_msg.proofs.writer.put_hashes.Given as goal

abbrev pub invariant-loop-hash : goal.invariant-loop-hash
invariant-loop-hash l = l.out.items ++ flat_map hash_spelling (drop l.hash-index l.hashes) ≡ l.fn.out.items ++ flat_map hash_spelling l.hashes
