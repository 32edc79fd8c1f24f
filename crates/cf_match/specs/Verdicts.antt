-- statement: what a filter says of the watched scripts (BIP 158, "Golomb-Coded Set Multi-Match").
use Rattle.std.specs.Prelude.{◌≡◌, ℕ, Bool, false, not, ◌&&◌, if◌then◌else◌, List, [], ◌∷◌, Option, Some, None, Result, Ok, Err}
use Rattle.cf_golomb.specs.declared.fault.SetFault.{SetFault}
use Rattle.cf_filter.specs.Filter.{match_of, filter_hash_of}
use Rattle.cf_headers.specs.Rules.{same}
use Rattle.cf_match.specs.declared.job.Job.{Job}
use Rattle.cf_match.specs.declared.job.Verdict.{Verdict}
use Rattle.cf_match.specs.declared.job.Verdict.TheVariants.{Miss, Hit}

-- bytes that are a Golomb code, which has none of the values that were asked for
abbrev pub is_miss : Result Bool SetFault → Bool
is_miss (Ok hit) = not hit
is_miss (Err fault) = false

-- a filter that has no watched script's value under its block's key
abbrev pub misses : List (List ℕ) → Job → Bool
misses watch job = is_miss (match_of job.block.0 watch job.filter)

-- the verdict on a filter
abbrev pub verdict_of : List (List ℕ) → Job → Verdict
verdict_of watch job = if misses watch job then Miss else Hit

-- verdicts by the hashes of the block and of the filter
abbrev pub Verdicts : Type 0
Verdicts = List ℕ → List ℕ → Option Verdict

-- with the verdict on one filter more, where none stands; and on filters in their order
abbrev pub kept_or : Option Verdict → Verdict → Verdict
kept_or None v = v
kept_or (Some before) v = before

abbrev pub is_of : Job → List ℕ → List ℕ → Bool
is_of job block hash = same job.block.0 block && same (filter_hash_of job.filter) hash

abbrev pub with_verdict : List (List ℕ) → Job → Verdicts → Verdicts
with_verdict watch job verdicts block hash = if is_of job block hash then Some (kept_or (verdicts block hash) (verdict_of watch job)) else verdicts block hash

-- verdicts, with those on these filters more, in their order; one that stands isn't replaced
abbrev pub with_verdicts : List (List ℕ) → List Job → Verdicts → Verdicts
with_verdicts watch [] verdicts = verdicts
with_verdicts watch (job ∷ jobs) verdicts = with_verdicts watch jobs (with_verdict watch job verdicts)

-- the same verdicts, by block and filter
abbrev pub AreSameVerdicts : Verdicts → Verdicts → Type 0
AreSameVerdicts a b = (block hash : List ℕ) → a block hash ≡ b block hash
