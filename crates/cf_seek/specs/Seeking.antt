-- statement: what is to be asked for that isn't open to anybody.
use Rattle.std.specs.Prelude.{◌≡◌, ℕ, ◌≤◌, ◌+◌, ◌-◌, ◌⊎◌, false, None, Some, ◌<◌, List, length, slice_index_or}
use Rattle.cf_dispute.specs.Claims.{Tables}
use Rattle.cf_headers.specs.Chain.{Hash, Chain, IsAbove}
use Rattle.cf_headers.specs.Heights.{hash_at, height_of}
use Rattle.cf_match.specs.declared.job.Job.{Job}
use Rattle.cf_match.specs.declared.job.Verdict.{Verdict}
use Rattle.cf_match.specs.declared.job.Verdict.TheVariants.{Hit}
use Rattle.cf_match.specs.Verdicts.{Verdicts}
use Rattle.cf_seek.specs.declared.want.Want.{Want}
use Rattle.cf_seek.specs.declared.want.Want.TheVariants.{Nothing, Claims, Filters, Block}
use Rattle.cf_seek.specs.Opens.{Opens, IsFilterFree, IsBlockFree}
use Rattle.cf_tables.specs.Known.{ExtractTable}
use Rattle.cf_tables.specs.Wanting.{IsUnjudged, IsToFetch, AreClaimed}

-- a block that isn't genesis: its filter is to be asked for, and is open to nobody
pub record IsToAsk (extracts : ExtractTable) (tables : Tables) (verdicts : Verdicts) (opens : Opens) (block : Hash) : Type 0 where
  pub above : IsAbove block
  pub un : IsUnjudged extracts tables verdicts block
  pub free : IsFilterFree opens block

-- a block that isn't genesis is to be fetched, and is open to nobody
pub record IsToGet (extracts : ExtractTable) (tables : Tables) (verdicts : Verdicts) (opens : Opens) (block : Hash) : Type 0 where
  pub above : IsAbove block
  pub due : IsToFetch extracts tables verdicts block
  pub free : IsBlockFree opens block

-- of a peer's blocks above genesis, up to a height, there is none whose filter is to be asked for and is open to nobody
abbrev pub AreSought : ExtractTable → Tables → Verdicts → Opens → Chain → ℕ → Type 0
AreSought extracts tables verdicts opens own most = (h : ℕ) → 1 ≤ h → h ≤ most → IsToAsk extracts tables verdicts opens (hash_at own h) → ⊥

-- of a peer's blocks above genesis, up to a height, there is none that is to be fetched and is open to nobody
abbrev pub ArePassed : ExtractTable → Tables → Verdicts → Opens → Chain → ℕ → Type 0
ArePassed extracts tables verdicts opens own most = (h : ℕ) → 1 ≤ h → h ≤ most → IsToGet extracts tables verdicts opens (hash_at own h) → ⊥

-- of the blocks up to a height: the lowest that p doesn't claim; else the lowest whose filter is to be asked for; else the lowest that is to be fetched; and
-- nothing exactly where there is none of these
abbrev pub IsSought : ExtractTable → Tables → Verdicts → Opens → ℕ → Chain → ℕ → Want → Type 0
IsSought extracts tables verdicts opens p own common Nothing =
    AreClaimed tables p own common × AreSought extracts tables verdicts opens own common × ArePassed extracts tables verdicts opens own common
IsSought extracts tables verdicts opens p own common (Claims h) =
    (1 ≤ h) × (h ≤ common) × AreClaimed tables p own (h - 1) × IsAbove (hash_at own h) × (tables p (hash_at own h) ≡ None)
IsSought extracts tables verdicts opens p own common (Filters h) =
    AreClaimed tables p own common × (1 ≤ h) × (h ≤ common) × AreSought extracts tables verdicts opens own (h - 1) × IsToAsk extracts tables verdicts opens (hash_at own h)
IsSought extracts tables verdicts opens p own common (Block h) =
    AreClaimed tables p own common × (1 ≤ h) × (h ≤ common) × AreSought extracts tables verdicts opens own common × ArePassed extracts tables verdicts opens own (h - 1)
    × IsToGet extracts tables verdicts opens (hash_at own h)

-- a question for filters goes from one height to another, each of whose blocks is to be asked about
abbrev pub AreToAsk : ExtractTable → Tables → Verdicts → Opens → Chain → ℕ → ℕ → Type 0
AreToAsk extracts tables verdicts opens own start end = (h : ℕ) → start ≤ h → h ≤ end → IsToAsk extracts tables verdicts opens (hash_at own h)

-- there the question ends: with the last block, with the 1000th, or below one that isn't to be asked about
abbrev pub IsLastToAsk : ExtractTable → Tables → Verdicts → Opens → Chain → ℕ → ℕ → ℕ → Type 0
IsLastToAsk extracts tables verdicts opens own start end common =
    (end ≡ common) ⊎ ((end + 1 ≡ start + 1000) ⊎ (IsToAsk extracts tables verdicts opens (hash_at own (end + 1)) → ⊥))

-- what was open still is
pub record MoreOpens (before after : Opens) : Type 0 where
  pub filters : (q : ℕ) (block : Hash) → after.filters q block ≡ false → before.filters q block ≡ false
  pub blocks : (q : ℕ) (block : Hash) → after.blocks q block ≡ false → before.blocks q block ≡ false

-- up to a height there is none of the first blocks of a batch whose filters hit
abbrev pub ArePassedHits : Chain → ℕ → List Job → List Verdict → ℕ → Type 0
ArePassedHits own most jobs verdicts count =
    (h : ℕ) → 1 ≤ h → h ≤ most → (k : ℕ) (d : Job) (v : Verdict) → k < count → k < length verdicts → slice_index_or verdicts k v ≡ Hit → hash_at own h ≡ (slice_index_or jobs k d).block.0 → ⊥

-- right above a height stands a block of a batch whose filter hits, or that block is genesis
abbrev pub IsBelowAHit : Chain → ℕ → List Job → List Verdict → Type 0
IsBelowAHit own most jobs verdicts =
    (k : ℕ) × (height : ℕ) × (k < length jobs) × (k < length verdicts)
    × ((v : Verdict) → slice_index_or verdicts k v ≡ Hit)
    × ((d : Job) → height_of (slice_index_or jobs k d).block.0 own ≡ Some height) × (most ≡ height - 1)
