-- machine: how many extracts, verdicts and outputs' items are kept.
use Rattle.std.specs.Prelude.{◌≡◌, ℕ, List, length, Option, IsSome}
use Rattle.cf_headers.specs.Chain.{Hash, IsIn}
use Rattle.cf_headers.specs.Counts.{AreDistinct}
use Rattle.cf_match.specs.Verdicts.{Verdicts}
use Rattle.cf_tables.specs.Outputs.{Paid}
use Rattle.cf_tables.specs.Known.{ExtractTable}

-- of so many blocks something is kept: of these, all different, and of no others
pub record CountsKept {A : Type 0} (kept_of : Hash → Option A) (n : ℕ) : Type 0 where
  pub blocks : List Hash
  pub many : length blocks ≡ n
  pub kept : (hash : Hash) → IsIn hash blocks → IsSome (kept_of hash)
  pub all : (hash : Hash) → IsSome (kept_of hash) → IsIn hash blocks
  pub apart : AreDistinct blocks

-- so many blocks have an extract
abbrev pub CountsBlocks : ExtractTable → ℕ → Type 0
CountsBlocks table n = CountsKept table n

-- of so many blocks the items of the outputs are kept
abbrev pub CountsOutputs : Paid → ℕ → Type 0
CountsOutputs paid n = CountsKept paid n

-- on so many filters a verdict is kept, each of them by the hashes of its block and of itself
pub record CountsVerdicts (verdicts : Verdicts) (n : ℕ) : Type 0 where
  pub filters : List (Hash × Hash)
  pub many : length filters ≡ n
  pub kept : (filter : Hash × Hash) → IsIn filter filters → IsSome (verdicts filter.0 filter.1)
  pub all : (block filter : Hash) → IsSome (verdicts block filter) → IsIn (block, filter) filters
  pub apart : AreDistinct filters
