-- machine: when the best chain's blocks are written.
use Rattle.std.specs.Prelude.{◌≡◌, ℕ, ◌<◌, ◌≤◌, min, List, length, Option, Some, None}
use Rattle.cf_bytes.specs.declared.peer.PeerNo.{PeerNo}
use Rattle.cf_dispute.specs.Claims.{Tables}
use Rattle.cf_headers.specs.declared.change.Change.{Change}
use Rattle.cf_headers.specs.declared.change.Change.TheVariants.{Longer, NoLonger, Unlinked, Invalid, TooHigh}
use Rattle.cf_headers.specs.Chain.{Hash, Chain, IsAbove}
use Rattle.cf_headers.specs.Heights.{hash_at}
use Rattle.cf_headers.specs.Store.{Chains, IsBest, own_of}
use Rattle.cf_match.specs.Verdicts.{Verdicts}
use Rattle.cf_tracker.specs.declared.account.Written.{Written}
use Rattle.cf_tables.specs.Known.{ExtractTable}
use Rattle.cf_tables.specs.Wanting.{IsDone}
use Rattle.cf_tracker.specs.Written.{IsWrittenTo, IsWrittenTop, IsWrittenWhole}

-- a block is settled, but for one with genesis's hash, of which nothing is to be known
abbrev pub IsDoneAbove : ExtractTable → Tables → Verdicts → Hash → Type 0
IsDoneAbove extracts tables verdicts block = IsAbove block → IsDone extracts tables verdicts block

-- so is each of a chain's blocks above one height, up to another
abbrev pub AreDone : ExtractTable → Tables → Verdicts → Chain → ℕ → ℕ → Type 0
AreDone extracts tables verdicts own from most =
    (h : ℕ) → from < h → h ≤ most → IsDoneAbove extracts tables verdicts (hash_at own h)

-- Of a chain: where its blocks above the greatest height up to which the written ones still are its own are settled,
-- its blocks are the written ones; and where one of them isn't, nothing is written, and nothing of what is written is
-- taken away.
pub record WritesOver (extracts : ExtractTable) (tables : Tables) (verdicts : Verdicts) (own : Chain) (before after : List Written) : Type 0 where
  pub stood : ℕ
  pub top : IsWrittenTop extracts own before stood
  pub settled : AreDone extracts tables verdicts own stood (length own) → IsWrittenWhole extracts own after
  pub left : (AreDone extracts tables verdicts own stood (length own) → ⊥) → after ≡ before

-- Where memory was lacking, which it can only where the chain's blocks above that height are settled: the written ones
-- are its own, at least up to that height.
pub record WritesPart (extracts : ExtractTable) (tables : Tables) (verdicts : Verdicts) (own : Chain) (before after : List Written) : Type 0 where
  pub stood : ℕ
  pub top : IsWrittenTop extracts own before stood
  pub settled : AreDone extracts tables verdicts own stood (length own)
  pub least : stood ≤ length after
  pub part : IsWrittenTo extracts own after (length after)

-- so it is of the best chain; where nobody has one nothing changes
abbrev pub WritesFor : ExtractTable → Tables → Verdicts → Chains → List Written → List Written → Option PeerNo → Type 0
WritesFor extracts tables verdicts chains before after None = after ≡ before
WritesFor extracts tables verdicts chains before after (Some p) = WritesOver extracts tables verdicts (own_of chains p) before after

pub record WritesUp (extracts : ExtractTable) (tables : Tables) (verdicts : Verdicts) (chains : Chains) (before after : List Written) : Type 0 where
  pub best : Option PeerNo
  pub is_best : IsBest chains best
  pub writes : WritesFor extracts tables verdicts chains before after best

pub record WritesUpPart (extracts : ExtractTable) (tables : Tables) (verdicts : Verdicts) (chains : Chains) (before after : List Written) : Type 0 where
  pub best : PeerNo
  pub is_best : IsBest chains (Some best)
  pub writes : WritesPart extracts tables verdicts (own_of chains best) before after

-- ---- the bookmark

-- the written blocks are those of the chain of a peer, up to a height; of a peer that has none up to no height
pub record IsUpTo (extracts : ExtractTable) (chain : Option Chain) (written : List Written) (height : ℕ) : Type 0 where
  pub none : chain ≡ None → height ≡ 0
  pub some : (own : Chain) → chain ≡ Some own → IsWrittenTo extracts own written height

-- a height falls to where a chain stays the same
abbrev pub stands_after : Change → ℕ → ℕ
stands_after (Longer link) height = min height link
stands_after NoLonger height = height
stands_after Unlinked height = height
stands_after (Invalid place fault) height = height
stands_after TooHigh height = height
