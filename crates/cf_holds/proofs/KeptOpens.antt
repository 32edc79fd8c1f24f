-- What is kept of open requests says what may be asked, and what is settled.
use Rattle.std.proofs.Common.{◌≡◌, ◌≢◌, inl, inr, ℕ, List, [], ◌∷◌, Bool, true, false, sym, ◌∙◌, subst}
use Rattle.std.proofs.lemmas.Bool.{cases_Bool, cases_eq, both_ways}
use Rattle.cf_bytes.specs.declared.hash.Hash32.{Hash32}
use Rattle.cf_dispute.specs.declared.claim.At.{At}
use Rattle.cf_dispute.specs.declared.claim.At.TheVariants.{Nobody}
use Rattle.cf_dispute.specs.Claims.{Tables, IsAt}
use Rattle.cf_headers.specs.Chain.{Hash, IsIn, back_to, IsAbove}
use Rattle.cf_match.specs.Verdicts.{Verdicts}
use Rattle.cf_msg.specs.declared.msg.Inventory.{Inventory}
use Rattle.cf_msg.specs.declared.msg.Msg.TheVariants.{GetData, GetCfilters}
use Rattle.cf_wires.specs.Log.{Log}
use Rattle.cf_peer.specs.Trail.{Trail, trail, is_connected, own}
use Rattle.cf_peer.specs.Asking.{OpenRequest, NothingOpen, FiltersOpen, BlockOpen, block_entry, request}
use Rattle.cf_seek.specs.Opens.{Opens, IsFilterFree, IsBlockFree}
use Rattle.cf_seek.specs.Opening.{IsSameElse, Closes, OpensFilters, OpensBlock}
use Rattle.cf_seek.specs.Seeking.{IsToAsk, IsToGet}
use Rattle.cf_tables.specs.Known.{ExtractTable}
use Rattle.cf_sync.specs.Fetching.{filters_open, blocks_open, IsFilterOpen, IsBlockOpen, IsAlone, IsSettled, blocks_in}
use Rattle.cf_holds.specs.Known.{HoldsFetched, HoldsClaims, HoldsGiven, HoldsOpens, OpensAt}
use Rattle.cf_holds.proofs.Kept.{done_else, settled_by}

pub free_filter : (log : Log) (opens : Opens) (block : Hash) → HoldsOpens log opens → IsFilterFree opens block → IsFilterOpen log block → ⊥
free_filter log opens block h free stands = both_ways (opens.filters stands.0 block) (free stands.0) ((h stands.0).all_filters block stands.1.0 stands.1.1)

pub free_block : (log : Log) (opens : Opens) (block : Hash) → HoldsOpens log opens → IsBlockFree opens block → IsBlockOpen log block → ⊥
free_block log opens block h free stands = both_ways (opens.blocks stands.0 block) (free stands.0) ((h stands.0).all_blocks block stands.1.0 stands.1.1)

is_false : (b : Bool) → (b ≡ true → ⊥) → b ≡ false
is_false b never = elim (cases_Bool b) [ inl is ↦ absurd (never is) | inr off ↦ off ]

pub filter_free : (log : Log) (opens : Opens) (block : Hash) → HoldsOpens log opens → (IsFilterOpen log block → ⊥) → IsFilterFree opens block
filter_free log opens block h none q = is_false (opens.filters q block) (λ is. none (q, (h q).filters block is))

pub block_free : (log : Log) (opens : Opens) (block : Hash) → HoldsOpens log opens → (IsBlockOpen log block → ⊥) → IsBlockFree opens block
block_free log opens block h none q = is_false (opens.blocks q block) (λ is. none (q, (h q).blocks block is))

-- what is asked is open to nobody
pub filters_alone : (log : Log) (opens : Opens) (p filter start : ℕ) (stop : Hash32) → HoldsOpens log opens
    → ((block : Hash) → IsIn block (blocks_in start (back_to stop.0 (own (trail log p)))) → IsFilterFree opens block) → IsAlone log p (GetCfilters filter start stop)
filters_alone log opens p filter start stop h free = λ block i none stands. free_filter log opens block h (free block i) stands

pub block_alone : (log : Log) (opens : Opens) (p : ℕ) (hash : Hash32) → HoldsOpens log opens → IsBlockFree opens hash.0 → IsAlone log p (GetData (block_entry hash ∷ []))
block_alone log opens p hash h free entry (inl e) stands = free_block log opens hash.0 h free (subst (λ (x : Inventory). IsBlockOpen log x.hash.0) e stands)
block_alone log opens p hash h free entry (inr none) stands = none

-- a block that somebody claims, that isn't open, and of which nothing is to be asked for that isn't open, is settled
pub settled_else : (watch : List (List ℕ)) (log : Log) (extracts : ExtractTable) (tables : Tables) (verdicts : Verdicts) (opens : Opens) → HoldsFetched watch log extracts → HoldsClaims log tables → HoldsGiven watch log verdicts → HoldsOpens log opens
    → (block : Hash) (at : At) → IsAt tables block at → at ≢ Nobody → IsAbove block → (IsToAsk extracts tables verdicts opens block → ⊥) → (IsToGet extracts tables verdicts opens block → ⊥)
    → (IsFilterOpen log block → ⊥) → (IsBlockOpen log block → ⊥) → IsSettled watch log block
settled_else watch log extracts tables verdicts opens f c g h block at is somebody above asked got no_filter no_block =
    settled_by watch log extracts tables verdicts f c g block
    (done_else extracts tables verdicts block at is somebody
    (λ un. asked (record { above = above; un = un; free = filter_free log opens block h no_filter }))
    (λ due. got (record { above = above; due = due; free = block_free log opens block h no_block })))

-- ---- what is kept goes on

-- what is open to p changes, and p's part; and nobody else's
pub opens_put : (log next : Log) (before after : Opens) (p : ℕ) → HoldsOpens log before → IsSameElse before after p → ((q : ℕ) → q ≢ p → trail next q ≡ trail log q) → OpensAt after p (trail next p) → HoldsOpens next after
opens_put log next before after p h else_same parts here q = elim (cases_eq q p) [
  | inl e ↦ subst (λ (k : ℕ). OpensAt after k (trail next k)) (sym e) here
  | inr ne ↦ (
      let w : OpensAt before q (trail next q) = subst (λ (t : Trail). OpensAt before q t) (sym (parts q ne)) (h q) in
      record {
        filters = λ b is. w.filters b (sym (else_same.filters q ne b) ∙ is);
        all_filters = λ b on i. else_same.filters q ne b ∙ w.all_filters b on i;
        blocks = λ b is. w.blocks b (sym (else_same.blocks q ne b) ∙ is);
        all_blocks = λ b on i. else_same.blocks q ne b ∙ w.all_blocks b on i;
      }
      )
]

-- filters were asked of a peer to which nothing was open
pub opens_filters : (before after : Opens) (p : ℕ) (t u : Trail) (asked : List Hash) → OpensAt before p t → request t ≡ NothingOpen → OpensFilters before after p asked → is_connected u ≡ true → request u ≡ FiltersOpen asked [] → OpensAt after p u
opens_filters before after p t u asked h idle opens on e = record {
  filters = λ b is. (
    on,
    elim (opens.only b is) [
      | inl i ↦ subst (λ (r : OpenRequest). IsIn b (filters_open r)) (sym e) i
      | inr was ↦ absurd (subst (λ (r : OpenRequest). IsIn b (filters_open r)) idle (h.filters b was).1)
    ],
  );
  all_filters = λ b there i. opens.there b (subst (λ (r : OpenRequest). IsIn b (filters_open r)) e i);
  blocks = λ b is. absurd (subst (λ (r : OpenRequest). IsIn b (blocks_open r)) idle (h.blocks b (sym (opens.blocks b) ∙ is)).1);
  all_blocks = λ b there i. absurd (subst (λ (r : OpenRequest). IsIn b (blocks_open r)) e i);
}

-- a block was
pub opens_block : (before after : Opens) (p : ℕ) (t u : Trail) (asked : Hash) → OpensAt before p t → request t ≡ NothingOpen → OpensBlock before after p asked → is_connected u ≡ true → request u ≡ BlockOpen asked → OpensAt after p u
opens_block before after p t u asked h idle opens on e = record {
  filters = λ b is. absurd (subst (λ (r : OpenRequest). IsIn b (filters_open r)) idle (h.filters b (sym (opens.filters b) ∙ is)).1);
  all_filters = λ b there i. absurd (subst (λ (r : OpenRequest). IsIn b (filters_open r)) e i);
  blocks = λ b is. (on, subst (λ (r : OpenRequest). IsIn b (blocks_open r)) (sym e) (inl (opens.only b is)));
  all_blocks = λ b there i. elim (subst (λ (r : OpenRequest). IsIn b (blocks_open r)) e i) [
    | inl this ↦ subst (λ (x : Hash). after.blocks p x ≡ true) (sym this) opens.there
    | inr none ↦ absurd none
  ];
}

-- a peer has answered, or is lost
pub opens_closed : (before after : Opens) (p : ℕ) (u : Trail) → Closes before after p → (is_connected u ≡ true → request u ≡ NothingOpen) → OpensAt after p u
opens_closed before after p u closes idle = record {
  filters = λ b is. absurd (both_ways (after.filters p b) (closes.filters b) is);
  all_filters = λ b on i. absurd (subst (λ (r : OpenRequest). IsIn b (filters_open r)) (idle on) i);
  blocks = λ b is. absurd (both_ways (after.blocks p b) (closes.blocks b) is);
  all_blocks = λ b on i. absurd (subst (λ (r : OpenRequest). IsIn b (blocks_open r)) (idle on) i);
}

-- the same stands in what is open to it
pub opens_same : (opens : Opens) (p : ℕ) (t u : Trail) → OpensAt opens p t → is_connected u ≡ is_connected t
    → ((b : Hash) → IsIn b (filters_open (request u)) → IsIn b (filters_open (request t))) → ((b : Hash) → IsIn b (filters_open (request t)) → IsIn b (filters_open (request u)))
    → ((b : Hash) → IsIn b (blocks_open (request u)) → IsIn b (blocks_open (request t))) → ((b : Hash) → IsIn b (blocks_open (request t)) → IsIn b (blocks_open (request u))) → OpensAt opens p u
opens_same opens p t u h on back forth back_b forth_b = record {
  filters = λ b is. let w = h.filters b is in (on ∙ w.0, forth b w.1);
  all_filters = λ b there i. h.all_filters b (sym on ∙ there) (back b i);
  blocks = λ b is. let w = h.blocks b is in (on ∙ w.0, forth_b b w.1);
  all_blocks = λ b there i. h.all_blocks b (sym on ∙ there) (back_b b i);
}
