-- A step along the records, by the blocks that were walked over.
use Rattle.std.proofs.Common.{◌≡◌, ℕ, zero, suc, ◌≤◌, ◌+◌, List, [], ◌∷◌, ◌++◌, length, Option, Some, None, Result, Ok, Err, false, refl, sym, ◌∙◌, ap, subst, arith, length-append}
use Rattle.std.specs.FinMap.{empty}
use Rattle.cf_bytes.specs.Cut.{◌>>=◌}
use Rattle.cf_bytes.proofs.Codecs.{value_of}
use Rattle.cf_bytes.specs.declared.memory.Refused.{Refused}
use Rattle.cf_bytes.specs.declared.memory.Refused.TheVariants.{No, NoMemory}
use Rattle.cf_block.specs.declared.tx.Block.{Block}
use Rattle.cf_block.specs.declared.tx.Tx.{Tx}
use Rattle.cf_block.specs.Commitment.{AreTxids, commit_fault}
use Rattle.cf_block.specs.Header.{block_hash_of}
use Rattle.cf_block.specs.Stored.{IsStored, stored_block_at}
use Rattle.cf_block.specs.Tx.{IsBlock, txid_of}
use Rattle.cf_block.specs.Views.{bytes_of}
use Rattle.cf_bytes.specs.declared.hash.Hash32.{Hash32}
use Rattle.std.specs.Prelude.{map, IfSome}
use Rattle.cf_headers.specs.Rules.{fault_after, past_after}
use Rattle.cf_headers.specs.Chain.{tip_hash, past_of}
use Rattle.cf_headers.proofs.Pasts.{past_more}
use Rattle.cf_chain.specs.Coins.{CoinMap, after_block}
use Rattle.cf_chain.specs.Good.{headers_of}
use Rattle.cf_walk.specs.declared.cause.RecordCause.{RecordCause}
use Rattle.cf_walk.specs.declared.judge.Judge.{Judge}
use Rattle.cf_walk.specs.Records.{Taken, record_with, max_record, record_at}
use Rattle.cf_coins.specs.Spending.{spend_txs}
use Rattle.cf_walk.specs.Files.{all_zeros, in_block, in_header, in_height, in_commitment, in_coins, or_else, put_on, cause_on, next_at, blocks_from}
use Rattle.cf_walk.specs.Progress.{HasRecord, RefusesFor}
use Rattle.cf_walk.specs.Judging.{BeginsWith, StandsOn, Walks, cause_by, block_unless, next_by, after_by, added}
use Rattle.cf_walk.proofs.Growing.{headers_more, coins_more, good_more}
use Rattle.cf_walk.proofs.FileSteps.{one_more, bad_here}

cause_is : (j : Judge) (blocks : List Block) (b : Block) → StandsOn j blocks → cause_by j.tip.0 j.past j.height j.coins b ≡ cause_on blocks b
unfolding cause_on
cause_is j blocks b s = λ i.
    or_else (in_header (fault_after (s.tip i) (s.past i) b.header))
    (or_else (in_height (s.height i))
    (or_else (in_commitment (commit_fault b))
    (in_coins (spend_txs (s.coins i) b.txs))))

-- ---- the step is that of the definition

pass_case : (blocks : List Block) (b : Block) (rest : List ℕ) (o : Option RecordCause) → (put_on o blocks b >>= λ more. Ok (more, rest)) ≡ added blocks (block_unless o b rest)
pass_case blocks b rest None = refl
pass_case blocks b rest (Some cause) = refl

block_case : (j : Judge) (blocks : List Block) → StandsOn j blocks → (rest : List ℕ) (r : Result Block RecordCause)
    → (r >>= λ b. put_on (cause_on blocks b) blocks b >>= λ more. Ok (more, rest)) ≡ added blocks (r >>= λ b. block_unless (cause_by j.tip.0 j.past j.height j.coins b) b rest)
block_case j blocks s rest (Ok b) =
    ap (λ (o : Option RecordCause). put_on o blocks b >>= λ more. Ok (more, rest)) (sym (cause_is j blocks b s)) ∙ pass_case blocks b rest (cause_by j.tip.0 j.past j.height j.coins b)
block_case j blocks s rest (Err cause) = refl

text_case : (j : Judge) (blocks : List Block) → StandsOn j blocks → (r : Taken (List ℕ))
    → (r >>= λ text. in_block (stored_block_at text.0) >>= λ b. put_on (cause_on blocks b) blocks b >>= λ more. Ok (more, text.1))
    ≡ added blocks (r >>= λ text. in_block (stored_block_at text.0) >>= λ b. block_unless (cause_by j.tip.0 j.past j.height j.coins b) b text.1)
text_case j blocks s (Ok text) = block_case j blocks s text.1 (in_block (stored_block_at text.0))
text_case j blocks s (Err cause) = refl

pub next_added : (j : Judge) (blocks : List Block) (bytes : List ℕ) → StandsOn j blocks → next_at blocks bytes ≡ added blocks (next_by j bytes)
unfolding next_at next_by
next_added j blocks bytes s = text_case j blocks s (record_at bytes)

-- ---- a block that is given may stand

pass_none : (cause : Block → Option RecordCause) (b x : Block) (rest more : List ℕ) (o : Option RecordCause) → o ≡ cause b → block_unless o b rest ≡ Ok (x, more) → cause x ≡ None
pass_none cause b x rest more None is e =
    let made : Taken Block = Ok (b, rest) in
    let both = value_of (b, rest) (x, more) made refl e in
    ap (λ p. cause p.0) (sym both) ∙ sym is
pass_none cause b x rest more (Some c) is e = cc

block_none : (cause : Block → Option RecordCause) (x : Block) (rest more : List ℕ) (r : Result Block RecordCause) → (r >>= λ b. block_unless (cause b) b rest) ≡ Ok (x, more) → cause x ≡ None
block_none cause x rest more (Ok b) e = pass_none cause b x rest more (cause b) refl e
block_none cause x rest more (Err c) e = cc

text_none : (cause : Block → Option RecordCause) (x : Block) (more : List ℕ) (r : Taken (List ℕ)) → (r >>= λ text. in_block (stored_block_at text.0) >>= λ b. block_unless (cause b) b text.1) ≡ Ok (x, more) → cause x ≡ None
text_none cause x more (Ok text) e = block_none cause x text.1 more (in_block (stored_block_at text.0)) e
text_none cause x more (Err c) e = cc

next_good : (j : Judge) (bytes more : List ℕ) (x : Block) → next_by j bytes ≡ Ok (x, more) → cause_by j.tip.0 j.past j.height j.coins x ≡ None
unfolding next_by
next_good j bytes more x e = text_none (cause_by j.tip.0 j.past j.height j.coins) x more (record_at bytes) e

stands_after : (j : Judge) (blocks : List Block) (b : Block) → StandsOn j blocks → cause_by j.tip.0 j.past j.height j.coins b ≡ None → IsBlock b → StandsOn (after_by j b) (blocks ++ b ∷ [])
stands_after j blocks b s none fits = record {
  good = good_more blocks b s.good fits (sym (cause_is j blocks b s) ∙ none);
  tip = sym (ap tip_hash (headers_more blocks b));
  past = ap (past_after b.header.time) s.past ∙ sym (ap past_of (headers_more blocks b) ∙ past_more b.header (headers_of blocks));
  height = omega (arith, s.height, length-append blocks (b ∷ []));
  coins = ap (λ (m : CoinMap). after_block m b) s.coins ∙ sym (coins_more empty blocks b);
}

pub stands_more : (j : Judge) (blocks : List Block) (b : Block) (bytes more : List ℕ) → StandsOn j blocks → next_by j bytes ≡ Ok (b, more) → IsBlock b → StandsOn (after_by j b) (blocks ++ b ∷ [])
stands_more j blocks b bytes more s e fits = stands_after j blocks b s (next_good j bytes more b e) fits

-- what is kept then stands on the block too
pub stands_with : (j new : Judge) (b : Block) → cause_by j.tip.0 j.past j.height j.coins b ≡ None → IsBlock b → new ≡ after_by j b
    → (blocks : List Block) → StandsOn j blocks → StandsOn new (blocks ++ b ∷ [])
stands_with j new b none fits is blocks s = subst (λ (x : Judge). StandsOn x (blocks ++ b ∷ [])) (sym is) (stands_after j blocks b s none fits)

-- the same, by what is kept of it
pub stands_so : (j new : Judge) (b : Block) → cause_by j.tip.0 j.past j.height j.coins b ≡ None → IsBlock b → new.tip.0 ≡ block_hash_of b.header
    → new.past ≡ past_after b.header.time j.past → new.height ≡ suc j.height → new.coins ≡ after_block j.coins b
    → (blocks : List Block) → StandsOn j blocks → StandsOn new (blocks ++ b ∷ [])
stands_so j new b none fits tip past height coins blocks s =
    let after = stands_after j blocks b s none fits in
    record { good = after.good; tip = tip ∙ after.tip; past = past ∙ after.past; height = height ∙ after.height; coins = coins ∙ after.coins }

-- ---- the hashes of its transactions

pub ids_are : (ids : List Hash32) (txs : List Tx) → AreTxids ids txs → ids ≡ map (λ t. record { 0 = txid_of t }) txs
ids_are [] [] e = refl
ids_are [] (t ∷ ts) e = cc
ids_are (h ∷ hs) [] e = cc
ids_are (h ∷ hs) (t ∷ ts) e =
    let first : h.0 ≡ txid_of t = cc in
    let rest : bytes_of hs ≡ map txid_of ts = cc in
    λ i. record { 0 = first i } ∷ ids_are hs ts rest i

named_so : (txs : List Tx) → AreTxids (map (λ t. record { 0 = txid_of t }) txs) txs
named_so [] = refl
named_so (t ∷ ts) = ap (λ (l : List (List ℕ)). txid_of t ∷ l) (named_so ts)

pub hashed_so : (o : Option Block) (old new : Judge) → IfSome o (λ b. new ≡ after_by old b) → IfSome o (λ b. AreTxids new.txids b.txs)
hashed_so None old new is = tt
hashed_so (Some b) old new is = ap (λ (j : Judge). bytes_of j.txids) is ∙ named_so b.txs

-- ---- a block that is refused

next_by_is : (j : Judge) (bytes text rest : List ℕ) (b : Block) → record_at bytes ≡ Ok (text, rest) → in_block (stored_block_at text) ≡ Ok b → next_by j bytes ≡ block_unless (cause_by j.tip.0 j.past j.height j.coins b) b rest
unfolding next_by
next_by_is j bytes text rest b read is =
    ap (λ r. r >>= λ text. in_block (stored_block_at text.0) >>= λ b. block_unless (cause_by j.tip.0 j.past j.height j.coins b) b text.1) read
    ∙ ap (λ r. r >>= λ b. block_unless (cause_by j.tip.0 j.past j.height j.coins b) b rest) is

pub walks_refused : (j : Judge) (bytes new text rest : List ℕ) (b : Block) (e : Refused RecordCause) → all_zeros bytes ≡ false → record_at bytes ≡ Ok (text, rest) → in_block (stored_block_at text) ≡ Ok b
    → RefusesFor (cause_by j.tip.0 j.past j.height j.coins b) e → Walks (next_by j bytes) bytes new (Err e)
walks_refused j bytes new text rest b (No cause) some read is for = (some, next_by_is j bytes text rest b read is ∙ ap (λ (o : Option RecordCause). block_unless o b rest) for)
walks_refused j bytes new text rest b NoMemory some read is for = tt

-- ---- a block that is given

pub begins : (b : Block) (bytes text rest : List ℕ) → bytes ≡ record_with text ++ rest → length text ≤ max_record → IsStored text b → BeginsWith b bytes rest
begins b bytes text rest e short stored = record {
  front = record_with text;
  is = record { text = text; stored = stored; short = short; spelled = refl };
  spelled = e;
}

record_there : (blocks : List Block) (b : Block) (bytes more : List ℕ) → BeginsWith b bytes more → HasRecord blocks (blocks ++ b ∷ []) bytes more
record_there blocks b bytes more has = record { block = b; added = refl; front = has.front; is = has.is; spelled = has.spelled }

pub end_more : (before : ℕ) (rest more : List ℕ) (j : Judge) (blocks : List Block) (b : Block) → all_zeros rest ≡ false → next_by j rest ≡ Ok (b, more) → BeginsWith b rest more → StandsOn j blocks
    → blocks_from before zero blocks rest ≡ blocks_from before zero (blocks ++ b ∷ []) more
end_more before rest more j blocks b some e has stands =
    one_more before blocks (blocks ++ b ∷ []) rest more some (next_added j blocks rest stands ∙ ap (added blocks) e) (record_there blocks b rest more has)

pub end_bad : (before number : ℕ) (rest : List ℕ) (j : Judge) (blocks : List Block) (cause : RecordCause) → all_zeros rest ≡ false → next_by j rest ≡ Err cause → number ≡ suc (before + j.height)
    → StandsOn j blocks → blocks_from before zero blocks rest ≡ Err (record { number = number; cause = cause })
end_bad before number rest j blocks cause some e is stands =
    let up : suc (before + length blocks) ≡ number = omega (arith, is, stands.height) in
    bad_here before blocks rest cause some (next_added j blocks rest stands ∙ ap (added blocks) e) ∙ (λ i. Err (record { number = up i; cause = cause }))

-- a record that is walked over
pub ruleset walks = (begins, stands_with)
