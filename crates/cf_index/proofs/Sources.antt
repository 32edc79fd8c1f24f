-- A chain that is kept as a walk gives its blocks.
use Rattle.std.proofs.Common.{◌≡◌, refl, ℕ, List, [], ◌∷◌, ◌++◌, Option, None, Ok, Err, sym, ◌∙◌, ap, subst}
use Rattle.std.specs.FinMap.{empty}
use Rattle.cf_block.specs.declared.tx.Block.{Block}
use Rattle.cf_bytes.specs.declared.hash.Hash32.{Hash32}
use Rattle.cf_block.specs.Commitment.{AreTxids}
use Rattle.cf_block.specs.Header.{block_hash_of}
use Rattle.cf_headers.specs.Rules.{past_after}
use Rattle.cf_headers.specs.Chain.{tip_hash, past_of}
use Rattle.cf_headers.proofs.Pasts.{past_more}
use Rattle.cf_chain.specs.Coins.{CoinMap, coins_after}
use Rattle.cf_chain.specs.Filters.{prevouts}
use Rattle.cf_chain.specs.Good.{IsGoodChain, headers_of}
use Rattle.cf_walk.specs.declared.judge.Judge.{Judge}
use Rattle.cf_walk.specs.declared.fault.LoadFault.{LoadFault}
use Rattle.cf_walk.specs.declared.fault.LoadFault.TheVariants.{BadBlock, TooBig, ReadFault, NoMemory}
use Rattle.cf_walk.specs.declared.walk.Walk.{Walk}
use Rattle.cf_index.specs.Checked.{IsChecked}
use Rattle.cf_walk.specs.Judging.{StandsOn, after_by}
use Rattle.cf_walk.specs.Striding.{Gives, ReadsAs}
use Rattle.cf_walk.proofs.Growing.{headers_more}
use Rattle.cf_conn.proofs.Stepping.{more_steps, no_steps}
use Rattle.cf_index.proofs.Walking.{named_more, hashed_more, taken_more}

-- what a walk answers at its end is what reading all the bytes answers
pub reads_none : (bytes : List ℕ) (blocks : List Block) (w : Walk) (left : Option (List ℕ)) → Gives bytes blocks (Ok None) w left → ReadsAs bytes (Ok blocks)
reads_none bytes blocks w left gives = gives

pub reads_fault : (bytes : List ℕ) (blocks : List Block) (fault : LoadFault) (w : Walk) (left : Option (List ℕ)) → Gives bytes blocks (Err fault) w left → ReadsAs bytes (Err fault)
reads_fault bytes blocks (BadBlock bad) w left gives = gives
reads_fault bytes blocks TooBig w left gives = gives
reads_fault bytes blocks ReadFault w left gives = tt
reads_fault bytes blocks NoMemory w left gives = tt

-- what was found of a block that is given
pub spent_so : (blocks : List Block) (b : Block) (old new : Judge) → StandsOn old blocks → new ≡ after_by old b → new.spent ≡ prevouts (coins_after empty blocks) b
spent_so blocks b old new stands is = ap (λ (j : Judge). j.spent) is ∙ ap (λ (m : CoinMap). prevouts m b) stands.coins

-- ---- what is kept with one block more

pub checked_more : (blocks more : List Block) (hashes named : List Hash32) (txids hashed : List (List Hash32)) (spent taken : List (List (List ℕ))) (b : Block) (hash : Hash32) (ids : List Hash32) (scripts : List (List ℕ))
    → IsChecked blocks hashes txids spent → IsGoodChain (blocks ++ b ∷ []) → hash.0 ≡ block_hash_of b.header → AreTxids ids b.txs → scripts ≡ prevouts (coins_after empty blocks) b
    → more ≡ blocks ++ b ∷ [] → named ≡ hashes ++ hash ∷ [] → hashed ≡ txids ++ ids ∷ [] → taken ≡ spent ++ scripts ∷ []
    → IsChecked more named hashed taken
checked_more blocks more hashes named txids hashed spent taken b hash ids scripts before good hash_is ids_are scripts_are e n h t = record {
  good = subst IsGoodChain (sym e) good;
  named = named_more hashes named blocks more b hash before.named hash_is n e;
  hashed = hashed_more txids hashed blocks more b ids before.hashed ids_are h e;
  taken = taken_more spent taken blocks more b scripts (coins_after empty blocks) before.taken refl scripts_are t e;
}

pub tip_more : (blocks more : List Block) (b : Block) (hash : List ℕ) → hash ≡ block_hash_of b.header → more ≡ blocks ++ b ∷ [] → hash ≡ tip_hash (headers_of more)
tip_more blocks more b hash is e = is ∙ sym (ap tip_hash (ap headers_of e ∙ headers_more blocks b))

pub past_on : (blocks more : List Block) (b : Block) (past later : List ℕ) → past ≡ past_of (headers_of blocks) → later ≡ past_after b.header.time past → more ≡ blocks ++ b ∷ []
    → later ≡ past_of (headers_of more)
past_on blocks more b past later so_far is e =
    is ∙ ap (past_after b.header.time) so_far ∙ sym (ap past_of (ap headers_of e ∙ headers_more blocks b) ∙ past_more b.header (headers_of blocks))

-- one block more that was checked
pub ruleset one_checked = (checked_more, tip_more, past_on)

-- a source that is read: what it ends with, and its steps
pub ruleset reading = (reads_fault, spent_so, no_steps, more_steps)
