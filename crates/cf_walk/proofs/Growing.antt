-- A good chain, and one block more.
use Rattle.std.proofs.Common.{◌≡◌, ℕ, ◌<◌, ◌==◌, Bool, true, false, ◌&&◌, nat_le, List, [], ◌∷◌, ◌++◌, map, length, refl, sym, ◌∙◌, ap, subst, arith, append_assoc, length-append, Option, Some, None, Result, Ok, Err}
use Rattle.std.specs.Prelude.{reverse, if◌then◌else◌}
use Rattle.std.specs.FinMap.{empty}
use Rattle.std.proofs.lemmas.List.{map-append, reverse-append}
use Rattle.std.proofs.lemmas.Bool.Decides.{nat_tests}
use Rattle.cf_block.specs.declared.header.Header.{Header}
use Rattle.cf_block.specs.declared.tx.Block.{Block}
use Rattle.cf_block.specs.declared.commitment.CommitFault.{CommitFault}
use Rattle.cf_block.specs.Header.{block_hash_of}
use Rattle.cf_block.specs.Tx.{IsBlock}
use Rattle.cf_block.specs.Commitment.{commit_fault}
use Rattle.cf_block.proofs.Committed.{passes as committed_if, is_good as no_commit_fault}
use Rattle.cf_headers.specs.declared.rules.HeaderFault.{HeaderFault}
use Rattle.cf_headers.specs.Rules.{same, is_worked, is_within_target, is_timely, fault_after}
use Rattle.cf_headers.specs.Chain.{Chain, tip_hash, past_of, fits, IsValidChain, height_limit}
use Rattle.cf_headers.proofs.Judging.{fits_where, rule}
use Rattle.cf_chain.specs.Coins.{CoinMap, after_block, coins_after}
use Rattle.cf_chain.specs.Good.{IsGoodBlock, AreGoodBlocks, headers_of, IsGoodChain}
use Rattle.cf_coins.specs.declared.fault.CoinFault.{CoinFault}
use Rattle.cf_walk.specs.declared.cause.RecordCause.{RecordCause}
use Rattle.cf_walk.specs.declared.cause.RecordCause.TheVariants.{TooHigh}
use Rattle.cf_coins.specs.Spending.{spend_txs}
use Rattle.cf_walk.specs.Files.{in_header, in_height, in_commitment, in_coins, or_else, cause_on}
use Rattle.cf_coins.proofs.Steps.{passes as spends, good as spent}

-- ---- lists

header_of : Block → Header
header_of b = b.header

pub headers_more : (blocks : List Block) (b : Block) → headers_of (blocks ++ b ∷ []) ≡ b.header ∷ headers_of blocks
headers_more blocks b = ap reverse (map-append (λ (x : Block). x.header) blocks (b ∷ [])) ∙ reverse-append (map (λ (x : Block). x.header) blocks) (b.header ∷ [])

pub headers_split : (blocks : List Block) (b : Block) (bs : List Block) → headers_of (blocks ++ b ∷ bs) ≡ headers_of bs ++ (b.header ∷ headers_of blocks)
headers_split blocks b bs =
    ap headers_of (sym (append_assoc blocks (b ∷ []) bs))
    ∙ ap reverse (map-append (λ (x : Block). x.header) (blocks ++ b ∷ []) bs)
    ∙ reverse-append (map (λ (x : Block). x.header) (blocks ++ b ∷ [])) (map (λ (x : Block). x.header) bs)
    ∙ ap (λ (l : List Header). headers_of bs ++ l) (headers_more blocks b)

pub coins_more : (coins : CoinMap) (blocks : List Block) (b : Block) → coins_after coins (blocks ++ b ∷ []) ≡ after_block (coins_after coins blocks) b
coins_more coins [] b = refl
coins_more coins (x ∷ xs) b = coins_more (after_block coins x) xs b

blocks_more : (coins : CoinMap) (blocks : List Block) (b : Block) → AreGoodBlocks coins blocks → IsGoodBlock (coins_after coins blocks) b → AreGoodBlocks coins (blocks ++ b ∷ [])
blocks_more coins [] b h g = (g, tt)
blocks_more coins (x ∷ xs) b h g = (h.0, blocks_more (after_block coins x) xs b h.1 g)

blocks_part : (coins : CoinMap) (blocks : List Block) (b : Block) (bs : List Block) → AreGoodBlocks coins (blocks ++ b ∷ bs) → IsGoodBlock (coins_after coins blocks) b
blocks_part coins [] b bs h = h.0
blocks_part coins (x ∷ xs) b bs h = blocks_part (after_block coins x) xs b bs h.1

valid_part : (above chain : Chain) → IsValidChain (above ++ chain) → IsValidChain chain
valid_part [] chain h = h
valid_part (x ∷ xs) chain h = valid_part xs chain h.1

-- ---- the causes, one by one

no_fault_by : (s b w t : Bool) → (s && ((b && w) && t)) ≡ true → rule s b w t ≡ None
no_fault_by true true true true h = refl
no_fault_by true true true false h = cc
no_fault_by true true false t h = cc
no_fault_by true false w t h = cc
no_fault_by false b w t h = cc

stands : (h : Header) (chain : Chain) → fits h chain ≡ true → fault_after (tip_hash chain) (past_of chain) h ≡ None
unfolding is_worked
stands h chain e = no_fault_by (same h.previous.0 (tip_hash chain)) (h.bits == 0x207fffff) (is_within_target (block_hash_of h)) (is_timely (past_of chain) h) e

or_none : (a later : Option RecordCause) → or_else a later ≡ None → (a ≡ None) × (later ≡ None)
or_none None later h = (refl, h)
or_none (Some c) later h = cc

header_none : (f : Option HeaderFault) → in_header f ≡ None → f ≡ None
header_none None h = refl
header_none (Some f) h = cc

commit_none : (f : Option CommitFault) → in_commitment f ≡ None → f ≡ None
commit_none None h = refl
commit_none (Some f) h = cc

coins_none : (r : Result CoinMap CoinFault) → in_coins r ≡ None → (new : CoinMap) × (r ≡ Ok new)
coins_none (Ok new) h = (new, refl)
coins_none (Err f) h = cc

low_by : (n : ℕ) (b : Bool) → nat_le height_limit n ≡ b → (if b then Some TooHigh else None) ≡ None → n < height_limit
low_by n true is h = cc
low_by n false is h = grind (arith, nat_tests)

high_by : (n : ℕ) → n < height_limit → nat_le height_limit n ≡ false
high_by n lt = grind (arith, nat_tests)

-- ---- together

pub good_more : (blocks : List Block) (b : Block) → IsGoodChain blocks → IsBlock b → cause_on blocks b ≡ None → IsGoodChain (blocks ++ b ∷ [])
unfolding cause_on
good_more blocks b g spelled e =
    let one = or_none (in_header (fault_after (tip_hash (headers_of blocks)) (past_of (headers_of blocks)) b.header)) _ e in
    let two = or_none (in_height (length blocks)) _ one.1 in
    let three = or_none (in_commitment (commit_fault b)) _ two.1 in
    let new = coins_none (spend_txs (coins_after empty blocks) b.txs) three.1 in
    let txs = spent (coins_after empty blocks) new.0 b.txs new.1 in
    let fit : fits b.header (headers_of blocks) ≡ true = fits_where b.header (headers_of blocks) (header_none _ one.0) in
    let low : length blocks < height_limit = low_by (length blocks) (nat_le height_limit (length blocks)) refl two.0 in
    let at : IsGoodBlock (coins_after empty blocks) b = record { spelled = spelled; committed = committed_if b (commit_none (commit_fault b) three.0); coinbase = txs.0; txs = txs.1 } in
    record {
      headers = subst IsValidChain (sym (headers_more blocks b)) (fit, g.headers);
      height = omega (arith, low, length-append blocks (b ∷ []));
      each = blocks_more empty blocks b g.each at;
    }

-- a block of a good chain may stand on those below it
pub record MayStand (blocks : List Block) (b : Block) : Type 0 where
  pub fit : fits b.header (headers_of blocks) ≡ true
  pub low : length blocks < height_limit
  pub at : IsGoodBlock (coins_after empty blocks) b

pub part_stands : (blocks : List Block) (b : Block) (bs : List Block) → IsGoodChain (blocks ++ b ∷ bs) → MayStand blocks b
part_stands blocks b bs g =
    let valid : IsValidChain (headers_of bs ++ (b.header ∷ headers_of blocks)) = subst IsValidChain (headers_split blocks b bs) g.headers in
    record {
      fit = (valid_part (headers_of bs) (b.header ∷ headers_of blocks) valid).0;
      low = omega (arith, g.height, length-append blocks (b ∷ bs));
      at = blocks_part empty blocks b bs g.each;
    }

none_by : (blocks : List Block) (b : Block) → fault_after (tip_hash (headers_of blocks)) (past_of (headers_of blocks)) b.header ≡ None → nat_le height_limit (length blocks) ≡ false → commit_fault b ≡ None
    → (new : CoinMap) → spend_txs (coins_after empty blocks) b.txs ≡ Ok new → cause_on blocks b ≡ None
unfolding cause_on
none_by blocks b header height commit new coins =
    ap (λ (x : Option HeaderFault). or_else (in_header x) (or_else (in_height (length blocks)) (or_else (in_commitment (commit_fault b)) (in_coins (spend_txs (coins_after empty blocks) b.txs))))) header
    ∙ ap (λ (x : Bool). or_else (if x then Some TooHigh else None) (or_else (in_commitment (commit_fault b)) (in_coins (spend_txs (coins_after empty blocks) b.txs)))) height
    ∙ ap (λ (x : Option CommitFault). or_else (in_commitment x) (in_coins (spend_txs (coins_after empty blocks) b.txs))) commit
    ∙ ap in_coins coins

pub no_cause : (blocks : List Block) (b : Block) → MayStand blocks b → cause_on blocks b ≡ None
no_cause blocks b m =
    none_by blocks b (stands b.header (headers_of blocks) m.fit) (high_by (length blocks) m.low) (no_commit_fault b m.at.committed)
    _ (spends (coins_after empty blocks) b.txs m.at.coinbase m.at.txs)
