-- What was fetched and what was given is a chain's own, where it has the hash.
use Rattle.std.proofs.Common.{◌≡◌, inl, inr, ℕ, List, [], ◌∷◌, ◌++◌, refl, sym, subst}
use Rattle.std.specs.FinMap.{empty}
use Rattle.cf_bytes.specs.Hash.{hash_of}
use Rattle.cf_block.specs.declared.header.Header.{Header}
use Rattle.cf_block.specs.declared.tx.Block.{Block}
use Rattle.cf_block.specs.Header.{block_hash_of, header_spelling}
use Rattle.cf_block.specs.Tx.{IsBlock}
use Rattle.cf_block.specs.Merkle.{hashed, Among}
use Rattle.cf_block.specs.Commitment.{spelled_txs, commit_fault, IsCommitted}
use Rattle.cf_block.proofs.HeaderLaws.{header_one}
use Rattle.cf_block.proofs.Committed.{committed_one, passes}
use Rattle.cf_chain.specs.Coins.{CoinMap, after_block}
use Rattle.cf_chain.specs.Filters.{Filtered}
use Rattle.cf_chain.specs.Good.{AreGoodBlocks}
use Rattle.cf_filter.specs.Filter.{filter_hash_of}
use Rattle.cf_headers.specs.Chain.{IsIn, NoHashClash}
use Rattle.cf_match.specs.declared.job.Job.{Job}
use Rattle.cf_msg.specs.declared.msg.Msg.TheVariants.{Block as BlockMessage, Cfilter}
use Rattle.cf_wires.specs.Log.{Log}
use Rattle.cf_peer.specs.Trail.{trail}
use Rattle.cf_sync.specs.Fetching.{counted_part, AreBytes, IsFetched}
use Rattle.cf_sync.specs.Honesty.{filters_above}
use Rattle.cf_sync.specs.Sync.{strings_of_block, IsHashed}
use Rattle.cf_sync.proofs.Answered.{HasCome}
use Rattle.cf_sync.proofs.Listed.{in_either}
use Rattle.cf_sync.proofs.Spelled.{said_spelled}
use Rattle.cf_sync.proofs.Counted.{none_from, counted_said, fetched_said, given_said}

pub good_each : (coins : CoinMap) (blocks : List Block) → AreGoodBlocks coins blocks → (b : Block) → IsIn b blocks → IsBlock b × IsCommitted b
good_each coins [] all b i = absurd i
good_each coins (c ∷ blocks) all b (inl e) = (subst IsBlock (sym e) all.0.spelled, subst IsCommitted (sym e) all.0.committed)
good_each coins (c ∷ blocks) all b (inr i) = good_each (after_block coins c) blocks all.1 b i

among_in : (xs : List (List ℕ)) (s : List ℕ) → Among xs s → IsIn s xs
among_in [] s h = h
among_in (x ∷ xs) s (inl e) = inl (sym e)
among_in (x ∷ xs) s (inr h) = inr (among_in xs s h)

same_hash : (a b : Header) → block_hash_of a ≡ block_hash_of b → hash_of (header_spelling a) ≡ hash_of (header_spelling b)
unfolding block_hash_of
same_hash a b e = e

-- a fetched block with the hash of a block of the chain is that block
pub fetched_is : (log : Log) (blocks : List Block) → AreBytes log → NoHashClash (IsHashed log blocks) → AreGoodBlocks empty blocks → (b : Block) → IsIn b blocks
    → (block : Block) → IsFetched log block → block_hash_of block.header ≡ block_hash_of b.header → block ≡ b
fetched_is log blocks bytes clash good b is block got e =
    let w = fetched_said (counted_part log got.0) block got.1 in
    let came = counted_said (trail log got.0) (BlockMessage block) w.0 in
    let fits : IsBlock block = said_spelled log got.0 (BlockMessage block) bytes came in
    let mine = good_each empty blocks good b is in
    let received : (s : List ℕ) → IsIn s (strings_of_block block) → IsHashed log blocks s = λ s i. inr (inl (got.0, (BlockMessage block, came, i))) in
    let of_chain : (s : List ℕ) → IsIn s (strings_of_block b) → IsHashed log blocks s = λ s i. inr (inr (inl (b, is, i))) in
    let text : header_spelling block.header ≡ header_spelling b.header =
    clash.apart (header_spelling block.header) (header_spelling b.header) (received (header_spelling block.header) (inl refl)) (of_chain (header_spelling b.header) (inl refl)) (same_hash block.header b.header e) in
    let among : (s : List ℕ) → Among (hashed (spelled_txs block) ++ hashed (spelled_txs b)) s → IsHashed log blocks s =
    λ s i. elim (in_either s (hashed (spelled_txs block)) (hashed (spelled_txs b)) (among_in (hashed (spelled_txs block) ++ hashed (spelled_txs b)) s i)) [
      | inl left ↦ received s (inr left)
      | inr right ↦ of_chain s (inr right)
    ] in
    committed_one block b fits mine.0 (passes block (none_from (commit_fault block) w.1)) mine.1 (λ x y i j f. clash.apart x y (among x i) (among y j) f)
    (header_one block.header b.header fits.header mine.0.header text)

same_filter_hash : (a b : List ℕ) → filter_hash_of a ≡ filter_hash_of b → hash_of a ≡ hash_of b
unfolding filter_hash_of
same_filter_hash a b e = e

-- a filter that came with the hash of a filter of the chain is that filter
pub given_is : (log : Log) (blocks : List Block) → NoHashClash (IsHashed log blocks) → (f : Filtered) → IsIn f (filters_above blocks) → (job : Job) → HasCome log job
    → filter_hash_of job.filter ≡ filter_hash_of f.filter → job.filter ≡ f.filter
given_is log blocks clash f i job got e =
    let w = given_said (counted_part log got.0) job got.1 in
    let came = counted_said (trail log got.0) (Cfilter w.0 job.block job.filter) w.1 in
    clash.apart job.filter f.filter (inr (inl (got.0, (Cfilter w.0 job.block job.filter, came, inl refl)))) (inr (inr (inr (f, i, refl)))) (same_filter_hash job.filter f.filter e)
