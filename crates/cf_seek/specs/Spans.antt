-- statement: what one question is about.
use Rattle.std.specs.Prelude.{◌≡◌, ℕ, ◌≤◌, ◌<◌, ◌+◌, pred, List, [], ◌∷◌, map, length, Some, slice_set}
use Rattle.cf_bytes.specs.declared.hash.Hash32.{Hash32}
use Rattle.cf_block.specs.Header.{block_hash_of}
use Rattle.cf_dispute.specs.Claims.{Tables}
use Rattle.cf_headers.specs.Chain.{Chain, above, lower, back_to, tip_hash}
use Rattle.cf_headers.specs.Heights.{hash_at, height_of}
use Rattle.cf_match.specs.Verdicts.{Verdicts}
use Rattle.cf_seek.specs.declared.cursors.Marks.{Marks}
use Rattle.cf_seek.specs.declared.spans.Span.{Span}
use Rattle.cf_seek.specs.declared.spans.Wish.{Wish}
use Rattle.cf_seek.specs.declared.spans.Wish.TheVariants.{Nothing, Claims, Filters, Block, Test}
use Rattle.cf_seek.specs.declared.want.Want.TheVariants.{Nothing as NothingWanted, Claims as ClaimsFrom, Filters as FiltersFrom, Block as BlockAt}
use Rattle.cf_dispute.specs.Tables.{blocks_of}
use Rattle.cf_seek.specs.Cursors.{marks_at, reached_to}
use Rattle.cf_seek.specs.Ends.{AreUnclaimed, IsLastUnclaimed}
use Rattle.cf_seek.specs.Opens.{Opens}
use Rattle.cf_seek.specs.Opening.{IsSameOpens, OpensBlock, OpensFilters, OpensSome}
use Rattle.cf_seek.specs.Seeking.{AreToAsk, IsLastToAsk, IsSought}
use Rattle.cf_tables.specs.Known.{ExtractTable}

-- the blocks of a chain from a height up to a part's tip, the lowest first, with the block below them; the part ends where the stop stands first
pub record IsSpan (own : Chain) (start end : ℕ) (span : Span) : Type 0 where
  pub first : span.start ≡ start
  pub stop : span.stop.0 ≡ hash_at own end
  pub part : Chain
  pub tip : back_to span.stop.0 own ≡ Some part
  pub is : part ≡ lower (length part) own
  pub low : start ≤ length part
  pub high : length part ≤ end
  pub parent : span.parent.0 ≡ tip_hash (lower (pred start) part)
  pub blocks : map (λ (h : Hash32). h.0) span.blocks.items ≡ map block_hash_of (above (pred start) part)

-- A whole question that may be put, a `Wish`, about what is sought by `IsSought`, a `Want`, which is a kind and the lowest height of that kind.
-- For claims: of at most 2000 blocks from there on, none of which the peer claims. For filters: of at most 1000, each of which is to be asked
-- for and isn't open. For the block at that height. For a filter that is to be tested, or for nothing: only where nothing is sought.
abbrev pub IsWish : ExtractTable → Tables → Verdicts → Opens → ℕ → Chain → ℕ → Wish → Type 0
IsWish extracts tables verdicts opens p own common Nothing = IsSought extracts tables verdicts opens p own common NothingWanted
IsWish extracts tables verdicts opens p own common (Claims span) =
    IsSought extracts tables verdicts opens p own common (ClaimsFrom span.start)
    × ((end : ℕ) × (IsSpan own span.start end span × (end ≤ common) × (end < span.start + 2000) × AreUnclaimed tables p own span.start end))
IsWish extracts tables verdicts opens p own common (Filters span) =
    IsSought extracts tables verdicts opens p own common (FiltersFrom span.start)
    × ((end : ℕ) × (IsSpan own span.start end span × (end ≤ common) × (end < span.start + 1000) × AreToAsk extracts tables verdicts opens own span.start end))
IsWish extracts tables verdicts opens p own common (Block hash) =
    (h : ℕ) × (IsSought extracts tables verdicts opens p own common (BlockAt h) × (hash.0 ≡ hash_at own h))
IsWish extracts tables verdicts opens p own common (Test trial) = IsSought extracts tables verdicts opens p own common NothingWanted

-- a question goes as far as it may: up to a height at which its last block stands, and from which on the next block isn't asked about
abbrev pub GoesFar : ExtractTable → Tables → Verdicts → Opens → ℕ → Chain → ℕ → Wish → Type 0
GoesFar extracts tables verdicts opens p own common Nothing = Unit {0}
GoesFar extracts tables verdicts opens p own common (Claims span) = (end : ℕ) × ((span.stop.0 ≡ hash_at own end) × AreUnclaimed tables p own span.start end × IsLastUnclaimed tables p own span.start end common)
GoesFar extracts tables verdicts opens p own common (Filters span) =
    (end : ℕ) × ((span.stop.0 ≡ hash_at own end) × AreToAsk extracts tables verdicts opens own span.start end × IsLastToAsk extracts tables verdicts opens own span.start end common)
GoesFar extracts tables verdicts opens p own common (Block hash) = Unit {0}
GoesFar extracts tables verdicts opens p own common (Test trial) = Unit {0}

-- what a question is about is open to p from now on: the blocks of a question for filters, that of one for a block, and that whose filter is to be tested; else
-- nothing changes
abbrev pub IsAskedFor : ℕ → Wish → Opens → Opens → Type 0
IsAskedFor p Nothing before after = IsSameOpens before after
IsAskedFor p (Claims span) before after = IsSameOpens before after
IsAskedFor p (Filters span) before after = OpensFilters before after p (blocks_of span.blocks.items)
IsAskedFor p (Block hash) before after = OpensBlock before after p hash.0
IsAskedFor p (Test trial) before after = OpensFilters before after p (trial.block.0 ∷ [])

-- where memory was lacking: of a question for filters some are open to p from now on; else nothing changes
abbrev pub IsAskedInPart : ℕ → Wish → Opens → Opens → Type 0
IsAskedInPart p Nothing before after = IsSameOpens before after
IsAskedInPart p (Claims span) before after = IsSameOpens before after
IsAskedInPart p (Filters span) before after = OpensSome before after p (blocks_of span.blocks.items)
IsAskedInPart p (Block hash) before after = IsSameOpens before after
IsAskedInPart p (Test trial) before after = OpensSome before after p (trial.block.0 ∷ [])

-- a question that may be put about the blocks of a peer's chain, up to one of its heights
pub record MayBePut (extracts : ExtractTable) (tables : Tables) (verdicts : Verdicts) (opens : Opens) (p : ℕ) (own : Chain) (wish : Wish) : Type 0 where
  pub common : ℕ
  pub low : common ≤ length own
  pub asks : IsWish extracts tables verdicts opens p own common wish

-- the marks of a peer that was asked: of its blocks up to the last of those whose filters it was asked for nothing is sought that isn't open
abbrev pub asked_marks : Chain → List Marks → ℕ → Wish → List Marks
asked_marks own cursors p Nothing = cursors
asked_marks own cursors p (Claims span) = cursors
asked_marks own cursors p (Filters span) = slice_set cursors p (reached_to (height_of span.stop.0 own) (marks_at cursors p))
asked_marks own cursors p (Block hash) = cursors
asked_marks own cursors p (Test trial) = cursors
