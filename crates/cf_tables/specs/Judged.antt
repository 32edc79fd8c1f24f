-- machine: the verdicts that the code keeps.
use Rattle.std.specs.Prelude.{◌≡◌, List, ℕ, if◌then◌else◌, ◌&&◌, Some}
use Rattle.std.specs.Ordering.{is_eq, nat_cmp, ordering_then}
use Rattle.std.specs.Cmp.Lexicographic.{slice_cmp}
use Rattle.std.specs.Map.{lookup}
use Rattle.cf_headers.specs.Rules.{same}
use Rattle.cf_match.specs.declared.job.Verdict.{Verdict}
use Rattle.cf_match.specs.declared.job.Job.{Job}
use Rattle.cf_match.specs.Verdicts.{AreSameVerdicts, Verdicts, kept_or, with_verdicts}
use Rattle.cf_tables.specs.declared.judged.Judged.{Judged}

-- the verdict that is kept under the hashes of a block and of a filter
unfoldable pub verdicts_in : Judged → Verdicts
verdicts_in judged block filter = lookup (λ k. is_eq (ordering_then (slice_cmp nat_cmp block k.block.0) (slice_cmp nat_cmp filter k.filter.0))) judged.map.entries

-- with one verdict more, in the place of one that stands; and where none stands
abbrev pub put_one : List ℕ → List ℕ → Verdict → Verdicts → Verdicts
put_one at of v verdicts block filter = if same at block && same of filter then Some v else verdicts block filter

-- with one verdict more, where none stands
abbrev pub with_one : List ℕ → List ℕ → Verdict → Verdicts → Verdicts
with_one at of v verdicts block filter = if same at block && same of filter then Some (kept_or (verdicts block filter) v) else verdicts block filter

-- each verdict that stood stands
abbrev pub MoreVerdicts : Verdicts → Verdicts → Type 0
MoreVerdicts before after = (block filter : List ℕ) (v : Verdict) → before block filter ≡ Some v → after block filter ≡ Some v

-- some of the verdicts on filters were put in: with those on the filters that are left there are all
abbrev pub AreKeptInPart : List (List ℕ) → List Job → Verdicts → Verdicts → Type 0
AreKeptInPart watch jobs before after = (left : List Job) × AreSameVerdicts (with_verdicts watch left after) (with_verdicts watch jobs before)
