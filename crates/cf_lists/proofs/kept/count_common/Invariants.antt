use Rattle.std.proofs.Common.{◌≡◌, ◌+◌, drop}
use Rattle.std.specs.List.{common_prefix_len}
use Rattle.cf_headers.specs.Heights.{is_same_header}
use Rattle.cf_headers.specs.Entries.{headers_of}
use Rattle.cf_lists.proofs.kept.count_common.Given as goal

abbrev pub invariant-loop-i : goal.invariant-loop-i
invariant-loop-i l =
    l.i + common_prefix_len is_same_header (drop l.i (headers_of l.mine)) (drop l.i (headers_of l.theirs))
    ≡ common_prefix_len is_same_header (headers_of l.mine) (headers_of l.theirs)
