-- A checked chain, block by block, for its filters.
use Rattle.std.proofs.Common.{◌≡◌, ℕ, zero, suc, ◌+◌, ◌<◌, ◌≤◌, List, [], ◌∷◌, ◌++◌, map, length, get_or, take, drop, refl, sym, ◌∙◌, ap, subst, add-one, arith}
use Rattle.std.specs.FinMap.{empty}
use Rattle.std.specs.List.{flat_map}
use Rattle.std.proofs.Math.Seq.{drop-cons}
use Rattle.std.proofs.lemmas.List.{append_assoc, map-append}
use Rattle.cf_bytes.specs.declared.hash.Hash32.{Hash32}
use Rattle.cf_block.specs.declared.tx.Block.{Block}
use Rattle.cf_block.specs.Header.{block_hash_of}
use Rattle.cf_block.specs.Commitment.{AreTxids}
use Rattle.cf_block.specs.Tx.{IsBlock, txid_of}
use Rattle.cf_block.specs.Views.{bytes_of}
use Rattle.cf_chain.specs.Coins.{CoinMap, after_block, coins_after}
use Rattle.cf_chain.specs.Filters.{Filtered, prevouts, filtered, filtered_on, filters_of}
use Rattle.cf_chain.specs.Good.{AreGoodBlocks}
use Rattle.cf_filter.specs.Items.{paid_scripts}
use Rattle.cf_index.specs.declared.block_filter.BlockFilter.{BlockFilter}
use Rattle.cf_index.specs.Checked.{hashes_of, prevouts_in}
use Rattle.cf_index.specs.Filtering.{shown, AreFirst}
use Rattle.cf_chain.proofs.Bounds.{block_few}

-- ---- one block more

pub hashes_more : (blocks : List Block) (b : Block) → hashes_of (blocks ++ b ∷ []) ≡ hashes_of blocks ++ (record { 0 = block_hash_of b.header }) ∷ []
hashes_more [] b = refl
hashes_more (x ∷ xs) b = ap (λ (l : List Hash32). record { 0 = block_hash_of x.header } ∷ l) (hashes_more xs b)

pub prevouts_more : (coins : CoinMap) (blocks : List Block) (b : Block) → prevouts_in coins (blocks ++ b ∷ []) ≡ prevouts_in coins blocks ++ prevouts (coins_after coins blocks) b ∷ []
prevouts_more coins [] b = refl
prevouts_more coins (x ∷ xs) b = ap (λ (l : List (List (List ℕ))). prevouts coins x ∷ l) (prevouts_more (after_block coins x) xs b)

pub named_more : (hashes new : List Hash32) (blocks more : List Block) (b : Block) (h : Hash32) → hashes ≡ hashes_of blocks → h.0 ≡ block_hash_of b.header
    → new ≡ hashes ++ h ∷ [] → more ≡ blocks ++ b ∷ [] → new ≡ hashes_of more
named_more hashes new blocks more b h named is pushed grown =
    let one : h ≡ record { 0 = block_hash_of b.header } = λ i. record { 0 = is i } in
    pushed ∙ ap (λ (l : List Hash32). l ++ h ∷ []) named ∙ ap (λ (x : Hash32). hashes_of blocks ++ x ∷ []) one ∙ sym (hashes_more blocks b) ∙ ap hashes_of (sym grown)

pub hashed_more : (ids new : List (List Hash32)) (blocks more : List Block) (b : Block) (l : List Hash32) → map bytes_of ids ≡ map (λ x. map txid_of x.txs) blocks → AreTxids l b.txs
    → new ≡ ids ++ l ∷ [] → more ≡ blocks ++ b ∷ [] → map bytes_of new ≡ map (λ x. map txid_of x.txs) more
hashed_more ids new blocks more b l hashed is pushed grown =
    ap (map bytes_of) pushed ∙ map-append bytes_of ids (l ∷ []) ∙ ap (λ (x : List (List (List ℕ))). x ++ bytes_of l ∷ []) hashed
    ∙ ap (λ (x : List (List ℕ)). map (λ (y : Block). map txid_of y.txs) blocks ++ x ∷ []) is
    ∙ sym (map-append (λ (y : Block). map txid_of y.txs) blocks (b ∷ [])) ∙ ap (map (λ (y : Block). map txid_of y.txs)) (sym grown)

pub taken_more : (spent new : List (List (List ℕ))) (blocks more : List Block) (b : Block) (scripts : List (List ℕ)) (coins : CoinMap) → spent ≡ prevouts_in empty blocks
    → coins ≡ coins_after empty blocks → scripts ≡ prevouts coins b → new ≡ spent ++ scripts ∷ [] → more ≡ blocks ++ b ∷ [] → new ≡ prevouts_in empty more
taken_more spent new blocks more b scripts coins taken coined is pushed grown =
    pushed ∙ ap (λ (l : List (List (List ℕ))). l ++ scripts ∷ []) taken
    ∙ ap (λ (x : List (List ℕ)). prevouts_in empty blocks ++ x ∷ []) (is ∙ ap (λ (m : CoinMap). prevouts m b) coined)
    ∙ sym (prevouts_more empty blocks b) ∙ ap (prevouts_in empty) (sym grown)

-- ---- at a place

pub hash_at : (blocks : List Block) (i : ℕ) (d : Block) (z : Hash32) → i < length blocks → (get_or (hashes_of blocks) i z).0 ≡ block_hash_of (get_or blocks i d).header
hash_at [] i d z lt = absurd (omega (arith, lt))
hash_at (x ∷ xs) zero d z lt = refl
hash_at (x ∷ xs) (suc i) d z lt = hash_at xs i d z (omega (arith, lt))

pub prevouts_at : (coins : CoinMap) (blocks : List Block) (i : ℕ) (d : Block) (z : List (List ℕ)) → i < length blocks
    → get_or (prevouts_in coins blocks) i z ≡ prevouts (coins_after coins (take i blocks)) (get_or blocks i d)
prevouts_at coins [] i d z lt = absurd (omega (arith, lt))
prevouts_at coins (x ∷ xs) zero d z lt = refl
prevouts_at coins (x ∷ xs) (suc i) d z lt = prevouts_at (after_block coins x) xs i d z (omega (arith, lt))

pub hashes_length : (blocks : List Block) → length (hashes_of blocks) ≡ length blocks
hashes_length [] = refl
hashes_length (x ∷ xs) = ap suc (hashes_length xs)

pub prevouts_length : (coins : CoinMap) (blocks : List Block) → length (prevouts_in coins blocks) ≡ length blocks
prevouts_length coins [] = refl
prevouts_length coins (x ∷ xs) = ap suc (prevouts_length (after_block coins x) xs)

pub spelled_at : (coins : CoinMap) (blocks : List Block) (i : ℕ) (d : Block) → i < length blocks → AreGoodBlocks coins blocks → IsBlock (get_or blocks i d)
spelled_at coins [] i d lt good = absurd (omega (arith, lt))
spelled_at coins (x ∷ xs) zero d lt good = good.0.spelled
spelled_at coins (x ∷ xs) (suc i) d lt good = spelled_at (after_block coins x) xs i d (omega (arith, lt)) good.1

pub coins_step : (coins : CoinMap) (blocks : List Block) (i : ℕ) (d : Block) → i < length blocks → coins_after coins (take (suc i) blocks) ≡ after_block (coins_after coins (take i blocks)) (get_or blocks i d)
coins_step coins [] i d lt = absurd (omega (arith, lt))
coins_step coins (x ∷ xs) zero d lt = refl
coins_step coins (x ∷ xs) (suc i) d lt = coins_step (after_block coins x) xs i d (omega (arith, lt))

-- what a block spends is what was kept of it
pub took_at : (blocks : List Block) (spent : List (List (List ℕ))) (i : ℕ) (b d : Block) (scripts z : List (List ℕ)) → i < length blocks → spent ≡ prevouts_in empty blocks
    → b ≡ get_or blocks i d → scripts ≡ get_or spent i z → scripts ≡ prevouts (coins_after empty (take i blocks)) b
took_at blocks spent i b d scripts z lt taken is at =
    at ∙ ap (λ (l : List (List (List ℕ))). get_or l i z) taken ∙ prevouts_at empty blocks i d z lt ∙ ap (prevouts (coins_after empty (take i blocks))) (sym is)

pub few_at : (blocks : List Block) (spent : List (List (List ℕ))) (i : ℕ) (b d : Block) (scripts z : List (List ℕ)) → i < length blocks → AreGoodBlocks empty blocks
    → spent ≡ prevouts_in empty blocks → b ≡ get_or blocks i d → scripts ≡ get_or spent i z → length (flat_map paid_scripts b.txs) + length scripts ≤ 33554432
few_at blocks spent i b d scripts z lt good taken is at =
    let few = block_few (coins_after empty (take i blocks)) b (subst IsBlock (sym is) (spelled_at empty blocks i d lt good)) in
    let same = ap length (took_at blocks spent i b d scripts z lt taken is at) in
    omega (arith, few, same)

pub block_more : (blocks : List Block) (i : ℕ) (b d : Block) → i < length blocks → b ≡ get_or blocks i d → drop i blocks ≡ b ∷ drop (i + 1) blocks
block_more blocks i b d lt is =
    let step : drop i blocks ≡ get_or blocks i d ∷ drop (i + 1) blocks = rw (add-one, drop-cons blocks i d) refl in
    step ∙ ap (λ (x : Block). x ∷ drop (i + 1) blocks) (sym is)

-- one filter more was told
walk : (coins new : CoinMap) (front : List BlockFilter) (f : BlockFilter) (previous : List ℕ) (blocks rest : List Block) (b : Block) (all : List Filtered)
    → blocks ≡ b ∷ rest → new ≡ after_block coins b → shown f ≡ filtered (prevouts coins b) previous b
    → map shown front ++ filtered_on coins previous blocks ≡ all
    → map shown (front ++ f ∷ []) ++ filtered_on new f.header.0 rest ≡ all
walk coins new front f previous blocks rest b all is coined told same =
    let one : map shown (front ++ f ∷ []) ++ filtered_on new f.header.0 rest ≡ map shown front ++ (shown f ∷ filtered_on new f.header.0 rest) =
    ap (λ (xs : List Filtered). xs ++ filtered_on new f.header.0 rest) (map-append shown front (f ∷ [])) ∙ append_assoc (map shown front) (shown f ∷ []) (filtered_on new f.header.0 rest) in
    let two : shown f ∷ filtered_on new f.header.0 rest ≡ filtered_on coins previous (b ∷ rest) =
    ap (λ (m : CoinMap). shown f ∷ filtered_on m f.header.0 rest) coined ∙ ap (λ (x : Filtered). x ∷ filtered_on (after_block coins b) x.header rest) told in
    one ∙ ap (λ (xs : List Filtered). map shown front ++ xs) (two ∙ ap (filtered_on coins previous) (sym is)) ∙ same

pub walk_on : (front : List BlockFilter) (f : BlockFilter) (previous : List ℕ) (blocks : List Block) (i : ℕ) (b d : Block) (scripts : List (List ℕ)) (all : List Filtered)
    → i < length blocks → b ≡ get_or blocks i d → scripts ≡ prevouts (coins_after empty (take i blocks)) b
    → shown f ≡ filtered scripts previous b
    → map shown front ++ filtered_on (coins_after empty (take i blocks)) previous (drop i blocks) ≡ all
    → map shown (front ++ f ∷ []) ++ filtered_on (coins_after empty (take (i + 1) blocks)) f.header.0 (drop (i + 1) blocks) ≡ all
walk_on front f previous blocks i b d scripts all lt is took told same =
    let coins : CoinMap = coins_after empty (take i blocks) in
    let after : coins_after empty (take (suc i) blocks) ≡ after_block coins b = coins_step empty blocks i d lt ∙ ap (after_block coins) (sym is) in
    let new : coins_after empty (take (i + 1) blocks) ≡ after_block coins b = ap (λ (n : ℕ). coins_after empty (take n blocks)) (add-one i) ∙ after in
    walk coins (coins_after empty (take (i + 1) blocks)) front f previous (drop i blocks) (drop (i + 1) blocks) b all (block_more blocks i b d lt is) new
    (told ∙ ap (λ (l : List (List ℕ)). filtered l previous b) took) same

-- with the filter of the next block
pub first_more : (front new : List BlockFilter) (f : BlockFilter) (previous : List ℕ) (blocks : List Block) (i next : ℕ) (b : Block) (scripts : List (List ℕ))
    → i < length blocks → b ≡ get_or blocks i b → scripts ≡ prevouts (coins_after empty (take i blocks)) b → shown f ≡ filtered scripts previous b
    → new ≡ front ++ f ∷ [] → next ≡ i + 1 → AreFirst blocks i previous front → AreFirst blocks next f.header.0 new
first_more front new f previous blocks i next b scripts lt is took told put more first =
    let P : List BlockFilter → Type 0 = AreFirst blocks next f.header.0 in
    let Q : ℕ → Type 0 = λ n. AreFirst blocks n f.header.0 (front ++ f ∷ []) in
    subst P (sym put) (subst Q (sym more) (walk_on front f previous blocks i b b scripts (filters_of blocks) lt is took told first))
