use Rattle.std.proofs.Common.{◌≡◌, None, take, reverse}
use Rattle.cf_headers.specs.Chain.{back_to}
use Rattle.cf_headers.specs.Entries.{headers_of}
use Rattle.cf_lists.proofs.kept.KeptChain.place.Given as goal

abbrev pub invariant-loop-i : goal.invariant-loop-i
invariant-loop-i l = back_to l.hash.0 (reverse (take l.i (headers_of l.entry-items))) ≡ None
