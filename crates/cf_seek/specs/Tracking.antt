-- machine: what a tracker holds.
use Rattle.std.specs.Prelude.{◌≡◌, ◌⊎◌, ℕ, ◌<◌, ◌≤◌, List, [], Option, Some, None, length, max, min, reverse}
use Rattle.cf_bytes.specs.declared.hash.Hash32.{Hash32}
use Rattle.cf_bytes.specs.declared.peer.PeerNo.{PeerNo}
use Rattle.cf_dispute.specs.Claims.{Tables}
use Rattle.cf_dispute.specs.Tables.{blocks_of}
use Rattle.cf_headers.specs.Chain.{Hash, Chain, IsIn, tip_hash}
use Rattle.cf_headers.specs.Heights.{hash_at}
use Rattle.cf_headers.specs.Store.{Chains, own_of, IsBest}
use Rattle.cf_match.specs.declared.job.Job.{Job}
use Rattle.cf_match.specs.declared.job.Verdict.{Verdict}
use Rattle.cf_match.specs.Verdicts.{Verdicts}
use Rattle.cf_scan.specs.declared.history.Entry.{Entry}
use Rattle.cf_scan.specs.Extracts.{history_of}
use Rattle.cf_seek.specs.declared.cursors.Marks.{Marks}
use Rattle.cf_seek.specs.Cursors.{marks_at}
use Rattle.cf_tables.specs.Tables.{placed_by}
use Rattle.cf_tables.specs.Known.{ExtractTable}
use Rattle.cf_seek.specs.Opens.{Opens}
use Rattle.cf_seek.specs.Seeking.{ArePassed, ArePassedHits, AreSought, IsBelowAHit}
use Rattle.cf_tables.specs.Wanting.{AreClaimed}

-- the marks of an entered peer stand on its chain, none higher than what it claims: it claims its blocks up to one; up to another no filter is to be asked
-- for that isn't open; and up to the third no block
pub record IsMarked (extracts : ExtractTable) (tables : Tables) (verdicts : Verdicts) (opens : Opens) (p : ℕ) (own : Chain) (marks : Marks) : Type 0 where
  pub on : marks.claimed ≤ length own
  pub seeks : marks.sought ≤ marks.claimed
  pub passes : marks.passed ≤ marks.claimed
  pub claimed : AreClaimed tables p own marks.claimed
  pub sought : AreSought extracts tables verdicts opens own marks.sought
  pub passed : ArePassed extracts tables verdicts opens own marks.passed

-- the blocks of a chain above one height, up to another, are among these
abbrev pub AreAmong : Chain → ℕ → ℕ → List Hash32 → Type 0
AreAmong own from height blocks = (h : ℕ) → from < h → h ≤ height → IsIn (hash_at own h) (blocks_of blocks)

-- so it is with each entered peer; another claims nothing, and nothing is marked as sought
abbrev pub MarkedAt : ExtractTable → Tables → Verdicts → Opens → ℕ → Option Chain → Marks → Type 0
MarkedAt extracts tables verdicts opens p None marks = ((block : Hash) → tables p block ≡ None) × (marks.sought ≡ 0) × (marks.passed ≡ 0)
MarkedAt extracts tables verdicts opens p (Some own) marks = IsMarked extracts tables verdicts opens p own marks

-- each peer's marks are so
abbrev pub AreMarked : Chains → ExtractTable → Tables → Verdicts → Opens → List Marks → Type 0
AreMarked chains extracts tables verdicts opens cursors = (p : ℕ) → MarkedAt extracts tables verdicts opens p (chains p) (marks_at cursors p)

-- a peer of whose blocks something is marked is entered, and the mark stands on its chain
abbrev pub IsWithin : Option Chain → Marks → Type 0
IsWithin chain marks = 0 < marks.passed → (own : Chain) × ((chain ≡ Some own) × (marks.passed ≤ length own))

-- marks of which that of the blocks fell to below each block of a batch whose filter hits, and no further
pub record IsFallen (chain : Option Chain) (before after : Marks) (jobs : List Job) (verdicts : List Verdict) : Type 0 where
  pub claimed : after.claimed ≡ before.claimed
  pub sought : after.sought ≡ before.sought
  pub low : after.passed ≤ before.passed
  pub apart : (own : Chain) → chain ≡ Some own → ArePassedHits own after.passed jobs verdicts (length jobs)
  pub tight : (own : Chain) → chain ≡ Some own → after.passed < before.passed → IsBelowAHit own after.passed jobs verdicts

-- marks that rose, those of filters and blocks at least to where any peer's stand, as far as is claimed
pub record AreRaised (before after : Marks) (shared_sought shared_passed : ℕ) : Type 0 where
  pub claimed : before.claimed ≤ after.claimed
  pub sought : max before.sought (min shared_sought after.claimed) ≤ after.sought
  pub passed : max before.passed (min shared_passed after.claimed) ≤ after.passed

-- the longest of the chains, of several that of the peer with the smallest number; genesis's where there is none
abbrev pub IsBestChain : Chains → Chain → Type 0
IsBestChain chains chain = ((p : PeerNo) × IsBest chains (Some p) × (chains p.0 ≡ Some chain)) ⊎ (IsBest chains None × (chain ≡ []))

-- a peer's chain, or genesis's for none
abbrev pub best_chain : Chains → Option PeerNo → Chain
best_chain chains None = []
best_chain chains (Some p) = own_of chains p

-- the height and the hash of the best chain's tip, and the history of the extracts of its blocks that are there
pub record IsReport (chains : Chains) (table : ExtractTable) (height : ℕ) (hash : Hash32) (entries : List Entry) : Type 0 where
  pub chain : Chain
  pub best : IsBestChain chains chain
  pub height_is : height ≡ length chain
  pub hash_is : hash.0 ≡ tip_hash chain
  pub history : entries ≡ history_of (placed_by table 1 (reverse chain))
