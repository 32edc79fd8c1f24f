-- machine: what was found of filters that were tested.
use Rattle.std.specs.Prelude.{◌≡◌, Bool, false, Option, Some, unwrap_or, if◌then◌else◌, ◌&&◌, ◌||◌}
use Rattle.std.specs.Ordering.{is_eq, nat_cmp, ordering_then}
use Rattle.std.specs.Cmp.Lexicographic.{slice_cmp}
use Rattle.std.specs.Map.{lookup}
use Rattle.cf_headers.specs.Chain.{Hash}
use Rattle.cf_headers.specs.Rules.{same}
use Rattle.cf_tables.specs.declared.tests.Tests.{Tests}
use Rattle.cf_tables.specs.Known.{TestResults}

-- what is kept of tests
unfoldable pub told_in : Tests → TestResults
told_in tests block filter = lookup (λ k. is_eq (ordering_then (slice_cmp nat_cmp block k.block.0) (slice_cmp nat_cmp filter k.filter.0))) tests.map.entries

-- with one test more, in the place of one that stands
abbrev pub set_test : Hash → Hash → Bool → TestResults → TestResults
set_test at of lacks told block filter = if same at block && same of filter then Some lacks else told block filter

-- it was found before, or is now
abbrev pub found_too : Option Bool → Bool → Bool
found_too before lacks = unwrap_or before false || lacks

-- with one test more, where what was found before to lack something stays so
abbrev pub with_test : Hash → Hash → Bool → TestResults → TestResults
with_test at of lacks told block filter =
    if same at block && same of filter then Some (found_too (told block filter) lacks) else told block filter

-- the same was found
abbrev pub IsSameTold : TestResults → TestResults → Type 0
IsSameTold after before = (block filter : Hash) → after block filter ≡ before block filter
