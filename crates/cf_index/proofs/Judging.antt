-- A block is judged in two steps: what needs no coins, and the coins.
use Rattle.std.proofs.Common.{◌≡◌, ℕ, List, length, Option, Some, None, refl, sym, ◌∙◌, ap}
use Rattle.std.specs.FinMap.{empty}
use Rattle.cf_bytes.specs.declared.memory.Refused.{Refused}
use Rattle.cf_bytes.specs.declared.memory.Refused.TheVariants.{No, NoMemory}
use Rattle.cf_block.specs.declared.tx.Block.{Block}
use Rattle.cf_block.specs.Commitment.{commit_fault}
use Rattle.cf_headers.specs.Rules.{fault_after}
use Rattle.cf_headers.specs.Chain.{tip_hash, past_of}
use Rattle.cf_chain.specs.Coins.{CoinMap, coins_after}
use Rattle.cf_chain.specs.Good.{headers_of}
use Rattle.cf_walk.specs.declared.cause.RecordCause.{RecordCause}
use Rattle.cf_walk.specs.Files.{cause_before_coins}
use Rattle.cf_walk.specs.Files.{in_header, in_height, in_commitment, in_coins, or_else, cause_on}
use Rattle.cf_walk.specs.Progress.{RefusesFor}
use Rattle.cf_coins.specs.Spending.{spend_txs}

or_split : (a b c d : Option RecordCause) → or_else a (or_else b (or_else c d)) ≡ or_else (or_else a (or_else b c)) d
or_split (Some x) b c d = refl
or_split None (Some y) c d = refl
or_split None None c d = refl

cause_split : (blocks : List Block) (b : Block)
    → cause_on blocks b
    ≡ or_else (cause_before_coins (tip_hash (headers_of blocks)) (past_of (headers_of blocks)) (length blocks) b)
    (in_coins (spend_txs (coins_after empty blocks) b.txs))
unfolding cause_on
cause_split blocks b =
    or_split (in_header (fault_after (tip_hash (headers_of blocks)) (past_of (headers_of blocks)) b.header)) (in_height (length blocks))
    (in_commitment (commit_fault b)) (in_coins (spend_txs (coins_after empty blocks) b.txs))

same_before : (blocks : List Block) (b : Block) (tip past : List ℕ) (height : ℕ)
    → tip ≡ tip_hash (headers_of blocks) → past ≡ past_of (headers_of blocks) → height ≡ length blocks
    → cause_before_coins (tip_hash (headers_of blocks)) (past_of (headers_of blocks)) (length blocks) b ≡ cause_before_coins tip past height b
same_before blocks b tip past height t p n =
    sym (ap (λ (x : List ℕ). cause_before_coins x past height b) t
    ∙ ap (λ (x : List ℕ). cause_before_coins (tip_hash (headers_of blocks)) x height b) p
    ∙ ap (λ (x : ℕ). cause_before_coins (tip_hash (headers_of blocks)) (past_of (headers_of blocks)) x b) n)

-- the cause, by what is found before the coins
cause_is : (blocks : List Block) (b : Block) (tip past : List ℕ) (height : ℕ) (before : Option RecordCause)
    → tip ≡ tip_hash (headers_of blocks) → past ≡ past_of (headers_of blocks) → height ≡ length blocks
    → cause_before_coins tip past height b ≡ before
    → cause_on blocks b ≡ or_else before (in_coins (spend_txs (coins_after empty blocks) b.txs))
cause_is blocks b tip past height before t p n is =
    cause_split blocks b
    ∙ ap (λ (x : Option RecordCause). or_else x (in_coins (spend_txs (coins_after empty blocks) b.txs))) (same_before blocks b tip past height t p n ∙ is)

pub refused_before : (blocks : List Block) (b : Block) (tip past : List ℕ) (height : ℕ) (e : Refused RecordCause)
    → tip ≡ tip_hash (headers_of blocks) → past ≡ past_of (headers_of blocks) → height ≡ length blocks
    → RefusesFor (cause_before_coins tip past height b) e
    → RefusesFor (cause_on blocks b) e
refused_before blocks b tip past height (No cause) t p n h = cause_is blocks b tip past height (Some cause) t p n h
refused_before blocks b tip past height NoMemory t p n h = tt

pub refused_coins : (blocks : List Block) (b : Block) (tip past : List ℕ) (height : ℕ) (coins : CoinMap) (e : Refused RecordCause)
    → tip ≡ tip_hash (headers_of blocks) → past ≡ past_of (headers_of blocks) → height ≡ length blocks
    → cause_before_coins tip past height b ≡ None
    → coins ≡ coins_after empty blocks → RefusesFor (in_coins (spend_txs coins b.txs)) e
    → RefusesFor (cause_on blocks b) e
refused_coins blocks b tip past height coins (No cause) t p n before laid h =
    cause_is blocks b tip past height None t p n before ∙ sym (ap (λ (m : CoinMap). in_coins (spend_txs m b.txs)) laid)
    ∙ h
refused_coins blocks b tip past height coins NoMemory t p n before laid h = tt

pub stands : (blocks : List Block) (b : Block) (tip past : List ℕ) (height : ℕ) (coins : CoinMap)
    → tip ≡ tip_hash (headers_of blocks) → past ≡ past_of (headers_of blocks) → height ≡ length blocks
    → cause_before_coins tip past height b ≡ None
    → coins ≡ coins_after empty blocks → in_coins (spend_txs coins b.txs) ≡ None
    → cause_on blocks b ≡ None
stands blocks b tip past height coins t p n before laid h =
    cause_is blocks b tip past height None t p n before ∙ sym (ap (λ (m : CoinMap). in_coins (spend_txs m b.txs)) laid)
    ∙ h

-- what comes of one block more
pub ruleset judged_so = (refused_before, refused_coins, stands)
