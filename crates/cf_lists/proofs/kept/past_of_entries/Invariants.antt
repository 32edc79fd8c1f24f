use Rattle.std.proofs.Common.{◌≡◌, [], drop}
use Rattle.cf_headers.specs.Chain.{past_of}
use Rattle.cf_headers.specs.Entries.{headers_of, past_through}
use Rattle.cf_lists.proofs.kept.past_of_entries.Given as goal

abbrev pub invariant-loop-entry : goal.invariant-loop-entry
invariant-loop-entry l = past_through (drop l.entry-index (headers_of l.entries)) l.past ≡ past_through (headers_of l.fn.entries) (past_of [])
