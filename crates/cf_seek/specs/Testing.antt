-- statement: which filter is to be tested next: one that a peer claims of a fetched block on which they differ.
use Rattle.std.specs.Prelude.{◌≡◌, ℕ, ◌≤◌, true, Option, Some, None, IsSome}
use Rattle.cf_dispute.specs.declared.claim.At.TheVariants.{Differ}
use Rattle.cf_dispute.specs.declared.claim.Claim.{Claim}
use Rattle.cf_dispute.specs.Claims.{Tables, IsAt}
use Rattle.cf_headers.specs.Chain.{Hash, Chain}
use Rattle.cf_headers.specs.Heights.{height_of}
use Rattle.cf_seek.specs.declared.spans.Wish.{Wish}
use Rattle.cf_seek.specs.declared.spans.Wish.TheVariants.{Nothing, Claims, Filters, Block, Test}
use Rattle.cf_seek.specs.declared.testing.Trial.{Trial}
use Rattle.cf_tables.specs.Known.{ExtractTable, TestResults}

-- a fetched block on whose filter they differ, where what p claims of it wasn't tested
pub record IsToTest (extracts : ExtractTable) (tables : Tables) (told : TestResults) (p : ℕ) (block : Hash) : Type 0 where
  pub fetched : IsSome (extracts block)
  pub disputed : IsAt tables block Differ
  pub claim : Claim
  pub mine : tables p block ≡ Some claim
  pub untested : told block claim.hash.0 ≡ None

-- such a block at this height of a chain, above genesis and up to another height
pub record IsTrial (extracts : ExtractTable) (tables : Tables) (told : TestResults) (p : ℕ) (own : Chain) (common : ℕ) (block : Hash) (height : ℕ) : Type 0 where
  pub stands : height_of block own ≡ Some height
  pub above : 1 ≤ height
  pub low : height ≤ common
  pub wanted : IsToTest extracts tables told p block

-- the lowest such, of all blocks
abbrev pub IsNextTrial : ExtractTable → Tables → TestResults → ℕ → Chain → ℕ → Option Trial → Type 0
IsNextTrial extracts tables told p own common None = (block : Hash) (h : ℕ) → IsTrial extracts tables told p own common block h → ⊥
IsNextTrial extracts tables told p own common (Some t) =
    IsTrial extracts tables told p own common t.block.0 t.height
    × ((block : Hash) (h : ℕ) → IsTrial extracts tables told p own common block h → t.height ≤ h)

-- a question for a filter that is to be tested is for the lowest such; nothing at all is asked only where there is none
abbrev pub IsTrying : ExtractTable → Tables → TestResults → ℕ → Chain → ℕ → Wish → Type 0
IsTrying extracts tables told p own common Nothing = IsNextTrial extracts tables told p own common None
IsTrying extracts tables told p own common (Claims span) = Unit {0}
IsTrying extracts tables told p own common (Filters span) = Unit {0}
IsTrying extracts tables told p own common (Block hash) = Unit {0}
IsTrying extracts tables told p own common (Test trial) = IsNextTrial extracts tables told p own common (Some trial)

-- p claims this filter of a block
pub record IsClaimedAs (tables : Tables) (p : ℕ) (block filter : Hash) : Type 0 where
  pub claim : Claim
  pub mine : tables p block ≡ Some claim
  pub this : claim.hash.0 ≡ filter

-- p claims this filter of a block, and it was found to lack what the block pays
pub record IsExposed (tables : Tables) (told : TestResults) (p : ℕ) (block filter : Hash) : Type 0 where
  pub claimed : IsClaimedAs tables p block filter
  pub found : told block filter ≡ Some true

-- of each block nobody claims a filter that was found to lack what the block pays
abbrev pub AreUnexposed : Tables → TestResults → Type 0
AreUnexposed tables told = (p : ℕ) (block filter : Hash) → IsExposed tables told p block filter → ⊥
