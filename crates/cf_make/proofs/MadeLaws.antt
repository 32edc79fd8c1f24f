-- Laws of made chains.
use Rattle.std.proofs.Common.{◌≡◌, ℕ, zero, suc, ◌+◌, ◌*◌, ◌<◌, ◌≤◌, ◌^◌, Bool, true, false, nat_lt, List, [], ◌∷◌, ◌++◌, map, length, take, Option, Some, None, refl, sym, ◌∙◌, ap, subst, arith, append_assoc, inl, inr, bytes_eq}
use Rattle.std.specs.Prelude.{is_some, fold, ◌&&◌}
use Rattle.std.specs.FinMap.{empty, get-empty}
use Rattle.std.specs.List.{flat_map, AllByRecursion}
use Rattle.std.proofs.lemmas.Bool.{ltb-true, ltb-false}
use Rattle.std.proofs.lemmas.List.{reverse-append, append-nil}
use Rattle.std.proofs.lemmas.Slice.Eq.{bytes_eq-Decides}
use Rattle.cf_bytes.proofs.HashLemmas.{length-hash_of}
use Rattle.cf_block.specs.declared.header.Header.{Header}
use Rattle.cf_block.specs.declared.tx.OutPoint.{OutPoint}
use Rattle.cf_block.specs.declared.tx.Tx.{Tx}
use Rattle.cf_block.specs.declared.tx.Block.{Block}
use Rattle.cf_block.specs.Header.{IsHash, header_spelling, block_hash_of, genesis_header}
use Rattle.cf_block.specs.Merkle.{Among, NoClash}
use Rattle.cf_block.specs.Output.{Output}
use Rattle.cf_block.specs.Outpoint.{outpoint, outpoint_cmp}
use Rattle.cf_block.specs.Stored.{IsStored}
use Rattle.cf_block.specs.Tx.{IsBlock, tx_spelling, txid_of}
use Rattle.cf_block.specs.Commitment.{spelled_txs}
use Rattle.cf_headers.specs.Rules.{same, is_worked, is_timely}
use Rattle.cf_headers.specs.Chain.{Chain, tip_hash, times_of, past_of, fits, IsValidChain, height_limit}
use Rattle.cf_headers.proofs.Rising.{AreBelow, below_more, rising_timely}
use Rattle.cf_chain.specs.Coins.{CoinMap, after_tx, after_block}
use Rattle.cf_chain.specs.Good.{AreGoodTxs, NoCoinbases, HasOneCoinbase, IsGoodBlock, AreGoodBlocks, headers_of, IsGoodChain}
use Rattle.cf_make.specs.declared.tipped.Tip.{Tip}
use Rattle.cf_make.specs.Mined.{with_nonce, is_met, NoneMeets, IsMined}
use Rattle.cf_make.specs.Made.{coinbase_of, second_of, made_txs, made_header, max_tries, first_coin, tip_of, genesis_tip, tip_after, IsMadeBlock, AreMade, IsExtension, StopsAt, seed_limit, IsMadeBySome, AreMadeInTurn, IsMadeChain}
use Rattle.cf_make.specs.Records.{text_of}
use Rattle.cf_make.proofs.CoinMaps.{Stands, put_stands, put_keeps}
use Rattle.cf_make.proofs.Spelled.{coin_of, coin_hash}
use Rattle.cf_make.proofs.Apart.{Apart, same_height}
use Rattle.cf_make.proofs.Standing.{AllLower, all_lower_more, with_coinbase, good_coinbase, lower_with_coinbase, good_second, lower_with_second, second_keeps}
use Rattle.cf_make.proofs.Fits.{seconds_cases, AreSpelled, AreFit, AllKnown, txs_spelled, txs_fit, header_fits, header_root, block_fits, block_committed}
use Rattle.cf_make.proofs.Blocks.{tip_append}
use Rattle.cf_make.proofs.Witnessed.{BeginsWithCoinbase, block_stored}

-- the tip's coin: genesis has none, and any other block's is its coinbase's, which stands
pub record CoinStands (P : List ℕ → Type 0) (coins : CoinMap) (height : ℕ) (coin : OutPoint) : Type 0 where
  pub seed : ℕ
  pub below : ℕ
  pub range : below < 2 ^ 32
  pub next : height ≡ suc below
  pub known : P (tx_spelling (coinbase_of seed below))
  pub is : coin ≡ coin_of seed below
  pub stands : Stands coins (coin_of seed below)

abbrev pub TipStands : (List ℕ → Type 0) → CoinMap → ℕ → Option OutPoint → Type 0
TipStands P coins height None = Unit {0}
TipStands P coins height (Some coin) = CoinStands P coins height coin

some_is : (a b : OutPoint) → Some a ≡ Some b → a ≡ b
some_is a b e = cc

coin_fits : (P : List ℕ → Type 0) (coins : CoinMap) (height : ℕ) (o : Option OutPoint) → TipStands P coins height o → (c : OutPoint) → o ≡ Some c → IsHash c.txid × (c.index ≡ 0)
coin_fits P coins height None tip c e = cc
coin_fits P coins height (Some k) tip c e =
    let is : coin_of tip.seed tip.below ≡ c = sym tip.is ∙ some_is k c e in
    (subst (λ (q : OutPoint). IsHash q.txid) is (coin_hash tip.seed tip.below), ap (λ (q : OutPoint). q.index) (sym is))

-- the transactions after the coinbase
record RestGood (P : List ℕ → Type 0) (coins : CoinMap) (seed height : ℕ) (ts : List Tx) : Type 0 where
  good : AreGoodTxs coins ts
  lower : AllLower P (suc height) (suc height) (fold after_tx coins ts)
  stands : Stands (fold after_tx coins ts) (coin_of seed height)
  none : NoCoinbases ts

rest_none : (P : List ℕ → Type 0) (coins : CoinMap) (seed height : ℕ) → AllLower P (suc height) height coins → Stands coins (coin_of seed height) → RestGood P coins seed height []
rest_none P coins seed height all stands = record { good = tt; lower = all_lower_more P (suc height) (suc height) height (suc height) coins (omega arith) (omega arith) all; stands = stands; none = tt }

coins_apart : (P : List ℕ → Type 0) → Apart P → (s h t k : ℕ) → h < 2 ^ 32 → k < 2 ^ 32 → P (tx_spelling (coinbase_of s h)) → P (tx_spelling (coinbase_of t k)) → coin_of s h ≡ coin_of t k → h ≡ k
unfolding txid_of
coins_apart P apart s h t k fh fk a b e = same_height s h t k fh fk (apart (tx_spelling (coinbase_of s h)) (tx_spelling (coinbase_of t k)) a b (ap (λ (q : OutPoint). q.txid.0) e))

rest_at : (P : List ℕ → Type 0) → Apart P → (coins : CoinMap) (seed height s below turn : ℕ) → height < 2 ^ 32 → height ≡ suc below → AllLower P (suc height) height coins → Stands coins (coin_of seed height)
    → P (tx_spelling (coinbase_of seed height)) → P (tx_spelling (coinbase_of s below)) → Stands coins (coin_of s below) → P (tx_spelling (second_of (coin_of s below) turn))
    → RestGood P coins seed height (second_of (coin_of s below) turn ∷ [])
unfolding second_of
rest_at P apart coins seed height s below turn fits next all stands ka kb there kc =
    let low : below < 2 ^ 32 = omega (arith, fits, next) in
    let lower : AllLower P (suc height) (suc below) coins = subst (λ (n : ℕ). AllLower P (suc height) n coins) next all in
    let after = lower_with_second P coins s below turn (suc height) low lower kb kc in
    record {
      good = (good_second P apart coins s below turn (suc height) low lower kb kc there, tt);
      lower = subst (λ (n : ℕ). AllLower P (suc height) (suc n) (after_tx coins (second_of (coin_of s below) turn))) (sym next) after;
      stands = second_keeps coins s below turn (coin_of seed height) (λ e. absurd (let n : height ≡ below = coins_apart P apart seed height s below fits low ka kb e in omega (arith, n, next))) stands;
      none = (refl, tt);
    }

rest_one : (P : List ℕ → Type 0) → Apart P → (coins : CoinMap) (seed height turn : ℕ) (c : OutPoint) → height < 2 ^ 32 → AllLower P (suc height) height coins → Stands coins (coin_of seed height)
    → P (tx_spelling (coinbase_of seed height)) → CoinStands P coins height c → P (tx_spelling (second_of c turn)) → RestGood P coins seed height (second_of c turn ∷ [])
rest_one P apart coins seed height turn c fits all stands ka tip kc =
    subst (λ (q : OutPoint). RestGood P coins seed height (second_of q turn ∷ [])) (sym tip.is)
    (rest_at P apart coins seed height tip.seed tip.below turn fits tip.next all stands ka tip.known tip.stands (subst (λ (q : OutPoint). P (tx_spelling (second_of q turn))) tip.is kc))

-- a whole block's transactions
record TxsGood (P : List ℕ → Type 0) (coins : CoinMap) (height : ℕ) (ts : List Tx) : Type 0 where
  good : AreGoodTxs coins ts
  one : HasOneCoinbase ts
  lower : AllLower P (suc height) (suc height) (fold after_tx coins ts)
  tip : TipStands P (fold after_tx coins ts) (suc height) (first_coin ts)

with_rest : (P : List ℕ → Type 0) → Apart P → (coins : CoinMap) (seed height : ℕ) (ts : List Tx) → height < 2 ^ 32 → AllLower P height height coins → P (tx_spelling (coinbase_of seed height))
    → RestGood P (with_coinbase coins seed height) seed height ts → TxsGood P coins height (coinbase_of seed height ∷ ts)
unfolding coinbase_of
with_rest P apart coins seed height ts fits all known rest = record {
  good = (good_coinbase P apart coins seed height height fits all known, rest.good);
  one = (refl, rest.none);
  lower = rest.lower;
  tip = record { seed = seed; below = height; range = fits; next = refl; known = known; is = refl; stands = rest.stands };
}

tip_still : (P : List ℕ → Type 0) (coins : CoinMap) (seed height : ℕ) (c : OutPoint) → CoinStands P coins height c → CoinStands P (with_coinbase coins seed height) height c
tip_still P coins seed height c tip =
    let stands = put_keeps coins (coin_of seed height) _ (coin_of tip.seed tip.below) tip.stands in
    record { seed = tip.seed; below = tip.below; range = tip.range; next = tip.next; known = tip.known; is = tip.is; stands = stands }

txs_good : (P : List ℕ → Type 0) → Apart P → (coins : CoinMap) (seed height : ℕ) (o : Option OutPoint) → height < 2 ^ 32 → AllLower P height height coins → TipStands P coins height o
    → AllKnown P (made_txs seed height o) → TxsGood P coins height (made_txs seed height o)
txs_good P apart coins seed height o fits all tip known =
    let known0 : P (tx_spelling (coinbase_of seed height)) = known.0 in
    let lower : AllLower P (suc height) height (with_coinbase coins seed height) = lower_with_coinbase P coins seed height height fits all known0 in
    let stands : Stands (with_coinbase coins seed height) (coin_of seed height) = put_stands coins (coin_of seed height) _ in
    seconds_cases (λ ts. AllKnown P (coinbase_of seed height ∷ ts) → TxsGood P coins height (coinbase_of seed height ∷ ts)) o (seed + height)
    (λ k. with_rest P apart coins seed height [] fits all known0 (rest_none P (with_coinbase coins seed height) seed height lower stands))
    (λ c e k. with_rest P apart coins seed height (second_of c (seed + height) ∷ []) fits all known0
    (rest_one P apart (with_coinbase coins seed height) seed height (seed + height) c fits lower stands known0
    (tip_still P coins seed height c (subst (TipStands P coins height) e tip)) k.1.0))
    known

-- what is kept from block to block
record State (P : List ℕ → Type 0) (coins : CoinMap) (height : ℕ) (t : Tip) : Type 0 where
  lower : AllLower P height height coins
  tip : TipStands P coins height t.coin
  hash : IsHash t.hash

record Stepped (P : List ℕ → Type 0) (coins : CoinMap) (height : ℕ) (b : Block) : Type 0 where
  good : IsGoodBlock coins b
  state : State P (after_block coins b) (suc height) (tip_of b)

hash_fits : (h : Header) → length (block_hash_of h) ≡ 32
unfolding block_hash_of
hash_fits h = length-hash_of (header_spelling h)

stepped_as : (P : List ℕ → Type 0) → Apart P → (coins : CoinMap) (seed height nonce : ℕ) (t : Tip) → height ≤ height_limit → nonce < max_tries → State P coins height t
    → AllKnown P (made_txs seed height t.coin) → Stepped P coins height (record { header = with_nonce (made_header seed height t) nonce; txs = made_txs seed height t.coin })
stepped_as P apart coins seed height nonce t low within state known =
    let h : Header = with_nonce (made_header seed height t) nonce in
    let ts : List Tx = made_txs seed height t.coin in
    let fit : AreFit ts = txs_fit P apart seed height t.coin (coin_fits P coins height t.coin state.tip) known in
    let good : TxsGood P coins height ts = txs_good P apart coins seed height t.coin (omega (arith, low)) state.lower state.tip known in
    record {
      good = record {
        spelled = block_fits h ts (header_fits seed height nonce t low within state.hash fit.spelled.root) fit.spelled;
        committed = block_committed h ts fit (header_root seed height nonce t);
        coinbase = good.one;
        txs = good.good;
      };
      state = record { lower = good.lower; tip = good.tip; hash = hash_fits h };
    }

remade : (b : Block) (h : Header) (ts : List Tx) → b.header ≡ h → b.txs ≡ ts → record { header = h; txs = ts } ≡ b
remade b h ts e f = λ i. record { header = sym e i; txs = sym f i }

stepped : (P : List ℕ → Type 0) → Apart P → (coins : CoinMap) (seed height : ℕ) (t : Tip) (b : Block) → height ≤ height_limit → State P coins height t → IsMadeBlock seed height t b → AllKnown P b.txs → Stepped P coins height b
stepped P apart coins seed height t b low state made known =
    subst (Stepped P coins height) (remade b (with_nonce (made_header seed height t) b.header.nonce) (made_txs seed height t.coin) made.header.same made.txs)
    (stepped_as P apart coins seed height b.header.nonce t low made.header.within state (subst (AllKnown P) made.txs known))

-- a tip as a block leaves it, whatever clashes
record IsTip (t : Tip) : Type 0 where
  hash : IsHash t.hash
  coin : (c : OutPoint) → t.coin ≡ Some c → IsHash c.txid × (c.index ≡ 0)

first_coin_fits : (ts : List Tx) (c : OutPoint) → first_coin ts ≡ Some c → IsHash c.txid × (c.index ≡ 0)
unfolding txid_of
first_coin_fits [] c e = cc
first_coin_fits (t ∷ ts) c e =
    let is : outpoint (txid_of t) 0 ≡ c = some_is (outpoint (txid_of t) 0) c e in
    (subst (λ (q : OutPoint). IsHash q.txid) is (length-hash_of (tx_spelling t)), ap (λ (q : OutPoint). q.index) (sym is))

tip_fits : (b : Block) → IsTip (tip_of b)
tip_fits b = record { hash = hash_fits b.header; coin = first_coin_fits b.txs }

genesis_tip_fits : IsTip genesis_tip
genesis_tip_fits = record { hash = hash_fits genesis_header; coin = λ c e. cc }

block_spelled : (seed height nonce : ℕ) (t : Tip) → height ≤ height_limit → nonce < max_tries → IsTip t
    → IsBlock (record { header = with_nonce (made_header seed height t) nonce; txs = made_txs seed height t.coin })
block_spelled seed height nonce t low within tip =
    let ts : AreSpelled (made_txs seed height t.coin) = txs_spelled seed height t.coin tip.coin in
    block_fits (with_nonce (made_header seed height t) nonce) (made_txs seed height t.coin) (header_fits seed height nonce t low within tip.hash ts.root) ts

made_spelled : (seed height : ℕ) (t : Tip) (b : Block) → height ≤ height_limit → IsTip t → IsMadeBlock seed height t b → IsBlock b
made_spelled seed height t b low tip made =
    subst IsBlock (remade b (with_nonce (made_header seed height t) b.header.nonce) (made_txs seed height t.coin) made.header.same made.txs)
    (block_spelled seed height b.header.nonce t low made.header.within tip)

begins_made : (seed height : ℕ) (o : Option OutPoint) → BeginsWithCoinbase (made_txs seed height o)
unfolding coinbase_of
begins_made seed height o = refl

all_made_stored : (witness : Bool) (height : ℕ) (t : Tip) (bs : List Block) → height + length bs ≤ suc height_limit → IsTip t → AreMadeInTurn height t bs
    → AllByRecursion (λ b. IsStored (text_of witness b) b) bs
all_made_stored witness height t [] low tip made = tt
all_made_stored witness height t (b ∷ bs) low tip made =
    let one : IsMadeBySome height t b = made.0 in
    let spelled : IsBlock b = made_spelled one.seed height t b (omega (arith, low)) tip one.made in
    let begins : BeginsWithCoinbase b.txs = subst BeginsWithCoinbase (sym one.made.txs) (begins_made one.seed height t.coin) in
    (block_stored witness b spelled begins, all_made_stored witness (suc height) (tip_of b) bs (omega (arith, low)) (tip_fits b) made.1)

abbrev BlocksKnown : (List ℕ → Type 0) → List Block → Type 0
BlocksKnown P [] = Unit {0}
BlocksKnown P (b ∷ bs) = AllKnown P b.txs × BlocksKnown P bs

all_good : (P : List ℕ → Type 0) → Apart P → (coins : CoinMap) (height : ℕ) (t : Tip) (bs : List Block) → height + length bs ≤ suc height_limit → State P coins height t → AreMadeInTurn height t bs → BlocksKnown P bs → AreGoodBlocks coins bs
all_good P apart coins height t [] low state made known = tt
all_good P apart coins height t (b ∷ bs) low state made known =
    let one : IsMadeBySome height t b = made.0 in
    let s : Stepped P coins height b = stepped P apart coins one.seed height t b (omega (arith, low)) state one.made known.0 in
    (s.good, all_good P apart (after_block coins b) (suc height) (tip_of b) bs (omega (arith, low)) s.state made.1 known.1)

-- the strings of a chain

among_left : (xs ys : List (List ℕ)) (s : List ℕ) → Among xs s → Among (xs ++ ys) s
among_left [] ys s a = absurd a
among_left (x ∷ xs) ys s (inl e) = inl e
among_left (x ∷ xs) ys s (inr a) = inr (among_left xs ys s a)

among_right : (xs ys : List (List ℕ)) (s : List ℕ) → Among ys s → Among (xs ++ ys) s
among_right [] ys s a = a
among_right (x ∷ xs) ys s a = inr (among_right xs ys s a)

txs_known : (P : List ℕ → Type 0) (ts : List Tx) → ((s : List ℕ) → Among (map tx_spelling ts) s → P s) → AllKnown P ts
txs_known P [] all = tt
txs_known P (t ∷ ts) all = (all (tx_spelling t) (inl refl), txs_known P ts (λ s a. all s (inr a)))

blocks_known : (P : List ℕ → Type 0) (bs : List Block) → ((s : List ℕ) → Among (flat_map spelled_txs bs) s → P s) → BlocksKnown P bs
blocks_known P [] all = tt
blocks_known P (b ∷ bs) all =
    (txs_known P b.txs (λ s a. all s (among_left (spelled_txs b) (flat_map spelled_txs bs) s a)), blocks_known P bs (λ s a. all s (among_right (spelled_txs b) (flat_map spelled_txs bs) s a)))

-- headers

made_worked : (seed height nonce : ℕ) (t : Tip) (chain : Chain) → t.hash.0 ≡ tip_hash chain → AreBelow (1296688602 + 600 * height) (times_of chain)
    → is_met (made_header seed height t) nonce ≡ true → fits (with_nonce (made_header seed height t) nonce) chain ≡ true
unfolding made_header same is_worked
made_worked seed height nonce t chain linked below met =
    let one : bytes_eq t.hash.0 (tip_hash chain) ≡ true = (bytes_eq-Decides t.hash.0 (tip_hash chain)).1 linked in
    let timely : is_timely (past_of chain) (with_nonce (made_header seed height t) nonce) ≡ true = rising_timely (with_nonce (made_header seed height t) nonce) chain below in
    λ i. one i && ((true && met i) && timely i)

made_fits : (seed height : ℕ) (t : Tip) (b : Block) (chain : Chain) → t.hash.0 ≡ tip_hash chain → AreBelow (1296688602 + 600 * height) (times_of chain)
    → IsMadeBlock seed height t b → fits b.header chain ≡ true
made_fits seed height t b chain linked below made =
    ap (λ (h : Header). fits h chain) made.header.same ∙ made_worked seed height b.header.nonce t chain linked below made.header.met

made_time : (seed height : ℕ) (t : Tip) (b : Block) → IsMadeBlock seed height t b → b.header.time ≡ 1296688602 + 600 * height
unfolding made_header
made_time seed height t b made = ap (λ (h : Header). h.time) made.header.same

-- made times rise by 600, so each is above all those below it
all_valid : (height : ℕ) (t : Tip) (bs : List Block) (chain : Chain) → t.hash.0 ≡ tip_hash chain → IsValidChain chain → AreBelow (1296688602 + 600 * height) (times_of chain)
    → AreMadeInTurn height t bs → IsValidChain (headers_of bs ++ chain)
all_valid height t [] chain linked valid below made = valid
all_valid height t (b ∷ bs) chain linked valid below made =
    let one : IsMadeBySome height t b = made.0 in
    let time = made_time one.seed height t b one.made in
    let rises : AreBelow (1296688602 + 600 * suc height) (times_of (b.header ∷ chain)) =
    (omega (arith, time), below_more (1296688602 + 600 * height) (1296688602 + 600 * suc height) (times_of chain) (omega arith) below) in
    let rest : IsValidChain (headers_of bs ++ (b.header ∷ chain)) =
    all_valid (suc height) (tip_of b) bs (b.header ∷ chain) refl (made_fits one.seed height t b chain linked below one.made, valid) rises made.1 in
    let turned : headers_of (b ∷ bs) ≡ headers_of bs ++ b.header ∷ [] = reverse-append (b.header ∷ []) (map (λ x. x.header) bs) in
    subst IsValidChain (sym (ap (λ (l : Chain). l ++ chain) turned ∙ append_assoc (headers_of bs) (b.header ∷ []) chain)) rest

nothing_stands : (p : OutPoint) → Stands empty p → ⊥
nothing_stands p h =
    let e : is_some {T = Output} None ≡ true = ap (λ (x : Option Output). is_some x) (sym (get-empty outpoint_cmp p)) ∙ h in
    cc

genesis_time : genesis_header.time < 1296688602 + 600 * 1
unfolding genesis_header
genesis_time = omega arith

pub made_is_good : (blocks : List Block) → IsMadeChain blocks → length blocks ≤ height_limit → NoClash (flat_map spelled_txs blocks) → IsGoodChain blocks
made_is_good blocks made low apart =
    let P : List ℕ → Type 0 = Among (flat_map spelled_txs blocks) in
    let state : State P empty 1 genesis_tip = record { lower = λ p h. absurd (nothing_stands p h); tip = tt; hash = hash_fits genesis_header } in
    let valid : IsValidChain (headers_of blocks ++ []) = all_valid 1 genesis_tip blocks [] refl tt (genesis_time, tt) made in
    record {
      headers = subst IsValidChain (append-nil (headers_of blocks)) valid;
      height = low;
      each = all_good P apart empty 1 genesis_tip blocks (omega (arith, low)) state made (blocks_known P blocks (λ s a. a));
    }

-- an extension of a made chain is one
in_turn : (height : ℕ) (t : Tip) (xs ys : List Block) → AreMadeInTurn height t xs → AreMadeInTurn (height + length xs) (tip_after t xs) ys → AreMadeInTurn height t (xs ++ ys)
in_turn height t [] ys a b = let e : height + 0 ≡ height = omega arith in subst (λ (n : ℕ). AreMadeInTurn n t ys) e b
in_turn height t (x ∷ xs) ys a b =
    let e : height + suc (length xs) ≡ suc height + length xs = omega arith in
    (a.0, in_turn (suc height) (tip_of x) xs ys a.1 (subst (λ (n : ℕ). AreMadeInTurn n (tip_after (tip_of x) xs) ys) e b))

by_some : (seed height : ℕ) (t : Tip) (xs : List Block) → seed < seed_limit → AreMade seed height t xs → AreMadeInTurn height t xs
by_some seed height t [] small all = tt
by_some seed height t (x ∷ xs) small all = (record { seed = seed; small = small; made = all.0 }, by_some seed (suc height) (tip_of x) xs small all.1)

lower_part : (height n : ℕ) (t : Tip) (xs : List Block) → AreMadeInTurn height t xs → AreMadeInTurn height t (take n xs)
lower_part height zero t [] all = tt
lower_part height (suc n) t [] all = tt
lower_part height zero t (x ∷ xs) all = tt
lower_part height (suc n) t (x ∷ xs) all = (all.0, lower_part (suc height) n (tip_of x) xs all.1)

pub extended : (base whole : List Block) (k seed n : ℕ) → seed < seed_limit → IsMadeChain base → IsExtension (take k base) seed n whole → IsMadeChain whole
extended base whole k seed n small made e =
    let low : List Block = take k base in
    let above : AreMadeInTurn (1 + length low) (tip_after genesis_tip low) e.more =
    subst (λ (h : ℕ). AreMadeInTurn h (tip_after genesis_tip low) e.more) (let s : suc (length low) ≡ 1 + length low = omega arith in s) (by_some seed (suc (length low)) (tip_after genesis_tip low) e.more small e.made) in
    subst IsMadeChain (sym e.joined) (in_turn 1 genesis_tip low e.more (lower_part 1 k genesis_tip base made) above)

pub made_stored : (witness : Bool) (blocks : List Block) → IsMadeChain blocks → length blocks ≤ height_limit → AllByRecursion (λ b. IsStored (text_of witness b) b) blocks
made_stored witness blocks made low = all_made_stored witness 1 genesis_tip blocks (omega (arith, low)) genesis_tip_fits made

pub chain_is_good : (seed n : ℕ) (whole : List Block) → seed < seed_limit → n ≤ height_limit → IsExtension [] seed n whole → NoClash (flat_map spelled_txs whole) → IsGoodChain whole
chain_is_good seed n whole small low e apart =
    let made : IsMadeChain whole = subst IsMadeChain (sym e.joined) (by_some seed 1 genesis_tip e.more small e.made) in
    let len : length whole ≡ n = ap (λ (l : List Block). length l) e.joined ∙ e.count in
    made_is_good whole made (omega (arith, low, len)) apart

-- there is one chain of a seed

mined_one : (h a b : Header) (tries : ℕ) → IsMined h tries a → IsMined h tries b → a ≡ b
mined_one h a b tries x y = x.same ∙ ap (with_nonce h) nonces ∙ sym y.same where
  not_less : (a b : Header) → IsMined h tries a → IsMined h tries b → a.nonce < b.nonce → ⊥
  not_less a b x y lt = let f : true ≡ false = sym x.met ∙ y.least a.nonce lt in cc

  nonces : a.nonce ≡ b.nonce
  nonces =
      elim (nat_lt a.nonce b.nonce) as (λ r. nat_lt a.nonce b.nonce ≡ r → a.nonce ≡ b.nonce) [
        | true ↦ λ e. absurd (not_less a b x y (ltb-true a.nonce b.nonce e))
        | false ↦ λ e. elim (nat_lt b.nonce a.nonce) as (λ r. nat_lt b.nonce a.nonce ≡ r → a.nonce ≡ b.nonce) [
          | true ↦ λ f. absurd (not_less b a y x (ltb-true b.nonce a.nonce f))
          | false ↦ λ f. omega (arith, ltb-false a.nonce b.nonce e, ltb-false b.nonce a.nonce f)
        ] refl
      ] refl

block_one : (seed height : ℕ) (t : Tip) (a b : Block) → IsMadeBlock seed height t a → IsMadeBlock seed height t b → a ≡ b
block_one seed height t a b x y =
    let h = mined_one (made_header seed height t) a.header b.header max_tries x.header y.header in
    let ts = x.txs ∙ sym y.txs in
    λ i. record { header = h i; txs = ts i }

blocks_one : (seed height : ℕ) (t : Tip) (xs ys : List Block) → length xs ≡ length ys → AreMade seed height t xs → AreMade seed height t ys → xs ≡ ys
blocks_one seed height t [] [] e a b = refl
blocks_one seed height t [] (y ∷ ys) e a b = absurd (omega (arith, e))
blocks_one seed height t (x ∷ xs) [] e a b = absurd (omega (arith, e))
blocks_one seed height t (x ∷ xs) (y ∷ ys) e a b =
    let first : x ≡ y = block_one seed height t x y a.0 b.0 in
    let rest : xs ≡ ys = blocks_one seed (suc height) (tip_of x) xs ys (omega (arith, e)) a.1 (subst (λ (z : Block). AreMade seed (suc height) (tip_of z) ys) (sym first) b.1) in
    λ i. first i ∷ rest i

pub extension_one : (base a b : List Block) (seed n : ℕ) → IsExtension base seed n a → IsExtension base seed n b → a ≡ b
extension_one base a b seed n x y =
    x.joined ∙ ap (λ (m : List Block). base ++ m) (blocks_one seed (suc (length base)) (tip_after genesis_tip base) x.more y.more (x.count ∙ sym y.count) x.made y.made) ∙ sym y.joined

-- and none where its making stops

no_stop : (seed height : ℕ) (t : Tip) (below more : List Block) → length below < length more → AreMade seed height t below → AreMade seed height t more
    → NoneMeets (made_header seed (height + length below) (tip_after t below)) max_tries → ⊥
no_stop seed height t below [] lt a b none = absurd (omega (arith, lt))
no_stop seed height t [] (y ∷ ys) lt a b none =
    let e : height + 0 ≡ height = omega arith in
    let made : IsMadeBlock seed height t y = b.0 in
    let not : is_met (made_header seed height t) y.header.nonce ≡ false = subst (λ (n : ℕ). NoneMeets (made_header seed n t) max_tries) e none y.header.nonce made.header.within in
    let f : true ≡ false = sym made.header.met ∙ not in
    cc
no_stop seed height t (x ∷ xs) (y ∷ ys) lt a b none =
    let first : x ≡ y = block_one seed height t x y a.0 b.0 in
    let e : height + suc (length xs) ≡ suc height + length xs = omega arith in
    no_stop seed (suc height) (tip_of x) xs ys (omega (arith, lt)) a.1 (subst (λ (z : Block). AreMade seed (suc height) (tip_of z) ys) (sym first) b.1)
    (subst (λ (n : ℕ). NoneMeets (made_header seed n (tip_after (tip_of x) xs)) max_tries) e none)

same_base : (base xs ys : List Block) → base ++ xs ≡ base ++ ys → xs ≡ ys
same_base [] xs ys e = e
same_base (b ∷ base) xs ys e = same_base base xs ys (let f : base ++ xs ≡ base ++ ys = cc in f)

pub none_beside : (base whole : List Block) (seed n height : ℕ) → IsExtension base seed n whole → StopsAt base seed n height → ⊥
none_beside base whole seed n height e s =
    let below : s.extends.more ≡ s.below = same_base base s.extends.more s.below (sym s.extends.joined) in
    let made : AreMade seed (suc (length base)) (tip_after genesis_tip base) s.below = subst (AreMade seed (suc (length base)) (tip_after genesis_tip base)) below s.extends.made in
    let at : height ≡ suc (length base) + length s.below = omega (arith, s.at) in
    let none : NoneMeets (made_header seed (suc (length base) + length s.below) (tip_after (tip_after genesis_tip base) s.below)) max_tries =
    subst (λ (u : Tip). NoneMeets (made_header seed (suc (length base) + length s.below) u) max_tries) (tip_append genesis_tip base s.below)
    (subst (λ (k : ℕ). NoneMeets (made_header seed k (tip_after genesis_tip (base ++ s.below))) max_tries) at s.unmined) in
    no_stop seed (suc (length base)) (tip_after genesis_tip base) s.below e.more (omega (arith, s.within, e.count)) made e.made none
