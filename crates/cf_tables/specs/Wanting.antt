-- statement: what is still to be done about a block.
use Rattle.std.specs.Prelude.{◌≡◌, ◌≢◌, ◌⊎◌, ℕ, ◌≤◌, Some, None, IsSome}
use Rattle.cf_bytes.specs.declared.hash.Hash32.{Hash32}
use Rattle.cf_dispute.specs.declared.claim.At.TheVariants.{Nobody, One, Differ}
use Rattle.cf_dispute.specs.Claims.{Tables, IsAt}
use Rattle.cf_headers.specs.Chain.{Hash, Chain, IsAbove}
use Rattle.cf_headers.specs.Heights.{hash_at}
use Rattle.cf_match.specs.declared.job.Verdict.TheVariants.{Miss, Hit}
use Rattle.cf_match.specs.Verdicts.{Verdicts}
use Rattle.cf_tables.specs.declared.kind.BlockKind.{BlockKind}
use Rattle.cf_tables.specs.declared.kind.BlockKind.TheVariants.{Unclaimed, Unjudged, ToFetch, Done}
use Rattle.cf_tables.specs.Known.{ExtractTable}

-- by extracts, claims and verdicts a block is settled; its filter is to be asked for, of those who claim it; it is to be fetched
abbrev pub IsDone : ExtractTable → Tables → Verdicts → Hash → Type 0
IsDone extracts tables verdicts block = IsSome (extracts block) ⊎ ((hash : Hash32) × IsAt tables block (One hash) × (verdicts block hash.0 ≡ Some Miss))

-- its filter is to be asked for: it has no extract, and the one filter that is claimed of it has no verdict
abbrev pub IsUnjudged : ExtractTable → Tables → Verdicts → Hash → Type 0
IsUnjudged extracts tables verdicts block = (extracts block ≡ None) × ((hash : Hash32) × IsAt tables block (One hash) × (verdicts block hash.0 ≡ None))

-- it is to be fetched: it has no extract, and different filters are claimed of it, or the one that is claimed hits
abbrev pub IsToFetch : ExtractTable → Tables → Verdicts → Hash → Type 0
IsToFetch extracts tables verdicts block = (extracts block ≡ None) × (IsAt tables block Differ ⊎ ((hash : Hash32) × IsAt tables block (One hash) × (verdicts block hash.0 ≡ Some Hit)))

-- the four kinds, one of which each block is
abbrev pub IsKind : ExtractTable → Tables → Verdicts → Hash → BlockKind → Type 0
IsKind extracts tables verdicts block Unclaimed = (extracts block ≡ None) × IsAt tables block Nobody
IsKind extracts tables verdicts block Unjudged = IsUnjudged extracts tables verdicts block
IsKind extracts tables verdicts block ToFetch = IsToFetch extracts tables verdicts block
IsKind extracts tables verdicts block Done = IsDone extracts tables verdicts block

-- and with nothing to be done about a block that has genesis's hash
abbrev pub IsKindAbove : ExtractTable → Tables → Verdicts → Hash → BlockKind → Type 0
IsKindAbove extracts tables verdicts block k = (IsAbove block → IsKind extracts tables verdicts block k) × (k ≢ Done → IsAbove block)

-- of a peer's blocks above genesis, up to a height, but for those that have genesis's hash
abbrev pub AreClaimed : Tables → ℕ → Chain → ℕ → Type 0
AreClaimed tables p own most = (h : ℕ) → 1 ≤ h → h ≤ most → IsAbove (hash_at own h) → IsSome (tables p (hash_at own h))

-- ---- claims that come and go
