-- Made transactions of different heights have different bytes.
use Rattle.std.proofs.Common.{◌≡◌, ℕ, suc, ◌<◌, ◌≤◌, ◌^◌, List, [], ◌∷◌, length, Ok, Err, refl, sym, ◌∙◌, ap, arith, ◌⊎◌, inl, inr}
use Rattle.std.specs.Int.{w32, w64, to_le_bytes}
use Rattle.cf_bytes.specs.Cut.{Read, number_at}
use Rattle.cf_bytes.specs.Hash.{hash_of}
use Rattle.cf_bytes.specs.declared.cut.CutFault.{CutFault}
use Rattle.cf_bytes.proofs.Codecs.{u32_again}
use Rattle.cf_block.specs.declared.tx.OutPoint.{OutPoint}
use Rattle.cf_block.specs.declared.tx.TxIn.{TxIn}
use Rattle.cf_block.specs.declared.tx.Tx.{Tx}
use Rattle.cf_block.specs.Tx.{tx_spelling, txid_of}
use Rattle.cf_block.proofs.Again.{tx_one}
use Rattle.cf_make.specs.Made.{mark_of, coinbase_of, second_of}
use Rattle.cf_make.proofs.Spelled.{coin_of, coin_hash, coinbase_size, second_size, coinbase_is_tx, second_is_tx}

-- strings of which no two different ones have one hash
abbrev pub Apart : (List ℕ → Type 0) → Type 0
Apart P = (a b : List ℕ) → P a → P b → hash_of a ≡ hash_of b → a ≡ b

first_script : List TxIn → List ℕ
first_script [] = []
first_script (i ∷ is) = i.script

first_txid : List TxIn → List ℕ
first_txid [] = []
first_txid (i ∷ is) = i.prev.txid.0

after_first : List ℕ → List ℕ
after_first [] = []
after_first (x ∷ xs) = xs

read_number : Read ℕ CutFault → ℕ
read_number (Ok x) = x.0
read_number (Err e) = 0

mark_height : (seed height : ℕ) → height < 2 ^ 32 → read_number (number_at w32 (after_first (mark_of seed height))) ≡ height
unfolding read_number after_first mark_of
mark_height seed height fits = ap read_number (u32_again height (8 ∷ to_le_bytes w64 seed) fits)

coinbase_mark : (seed height : ℕ) → first_script (coinbase_of seed height).inputs ≡ mark_of seed height
unfolding first_script coinbase_of
coinbase_mark seed height = refl

second_names : (coin : OutPoint) (turn : ℕ) → first_txid (second_of coin turn).inputs ≡ coin.txid.0
unfolding first_txid second_of
second_names coin turn = refl

-- a coinbase tells its height
pub same_height : (s h t k : ℕ) → h < 2 ^ 32 → k < 2 ^ 32 → tx_spelling (coinbase_of s h) ≡ tx_spelling (coinbase_of t k) → h ≡ k
same_height s h t k fh fk e =
    let one : coinbase_of s h ≡ coinbase_of t k = tx_one (coinbase_of s h) (coinbase_of t k) (coinbase_is_tx s h) (coinbase_is_tx t k) e in
    let marks : mark_of s h ≡ mark_of t k = sym (coinbase_mark s h) ∙ ap (λ (x : Tx). first_script x.inputs) one ∙ coinbase_mark t k in
    sym (mark_height s h fh) ∙ ap (λ (m : List ℕ). read_number (number_at w32 (after_first m))) marks ∙ mark_height t k fk

-- and the spending of a coin tells the coin
same_coin : (s h t k a b : ℕ) → tx_spelling (second_of (coin_of s h) a) ≡ tx_spelling (second_of (coin_of t k) b) → txid_of (coinbase_of s h) ≡ txid_of (coinbase_of t k)
same_coin s h t k a b e =
    let one : second_of (coin_of s h) a ≡ second_of (coin_of t k) b =
    tx_one (second_of (coin_of s h) a) (second_of (coin_of t k) b) (second_is_tx (coin_of s h) a (coin_hash s h) refl) (second_is_tx (coin_of t k) b (coin_hash t k) refl) e in
    sym (second_names (coin_of s h) a) ∙ ap (λ (x : Tx). first_txid x.inputs) one ∙ second_names (coin_of t k) b

pub other_size : (s h t k a : ℕ) → tx_spelling (coinbase_of s h) ≡ tx_spelling (second_of (coin_of t k) a) → ⊥
other_size s h t k a e =
    let n : length (tx_spelling (coinbase_of s h)) ≡ length (tx_spelling (second_of (coin_of t k) a)) = ap (λ (x : List ℕ). length x) e in
    absurd (omega (arith, n, coinbase_size s h, second_size (coin_of t k) a (coin_hash t k)))

-- the bytes of a transaction that stands lower: a coinbase below one height, or the spending of a coinbase below another
pub record WasCoinbase (bound : ℕ) (s : List ℕ) : Type 0 where
  pub seed : ℕ
  pub height : ℕ
  pub range : height < 2 ^ 32
  pub low : height < bound
  pub is : s ≡ tx_spelling (coinbase_of seed height)

pub record WasSecond (P : List ℕ → Type 0) (bound : ℕ) (s : List ℕ) : Type 0 where
  pub seed : ℕ
  pub height : ℕ
  pub turn : ℕ
  pub range : height < 2 ^ 32
  pub low : suc height < bound
  pub known : P (tx_spelling (coinbase_of seed height))
  pub is : s ≡ tx_spelling (second_of (coin_of seed height) turn)

abbrev pub Was : (List ℕ → Type 0) → ℕ → ℕ → List ℕ → Type 0
Was P coinbases seconds s = WasCoinbase coinbases s ⊎ WasSecond P seconds s

-- a coinbase is new at its height
pub new_coinbase : (P : List ℕ → Type 0) (seed height n : ℕ) (s : List ℕ) → height < 2 ^ 32 → Was P height n s → tx_spelling (coinbase_of seed height) ≡ s → ⊥
new_coinbase P seed height n s fits (inl w) e =
    let same : height ≡ w.height = same_height seed height w.seed w.height fits w.range (e ∙ w.is) in
    absurd (omega (arith, same, w.low))
new_coinbase P seed height n s fits (inr w) e = other_size seed height w.seed w.height w.turn (e ∙ w.is)

-- and so is the spending of the coinbase right below
pub new_second : (P : List ℕ → Type 0) → Apart P → (seed below turn n : ℕ) (s : List ℕ) → below < 2 ^ 32 → P (tx_spelling (coinbase_of seed below)) → Was P n (suc below) s
    → tx_spelling (second_of (coin_of seed below) turn) ≡ s → ⊥
unfolding txid_of
new_second P apart seed below turn n s fits known (inl w) e = other_size w.seed w.height seed below turn (sym (e ∙ w.is))
new_second P apart seed below turn n s fits known (inr w) e =
    let coins = same_coin seed below w.seed w.height turn w.turn (e ∙ w.is) in
    let same = apart (tx_spelling (coinbase_of seed below)) (tx_spelling (coinbase_of w.seed w.height)) known w.known coins in
    let heights : below ≡ w.height = same_height seed below w.seed w.height fits w.range same in
    absurd (omega (arith, heights, w.low))

-- what stands lower stands lower still for more
pub was_more : (P : List ℕ → Type 0) (a b c d : ℕ) (s : List ℕ) → a ≤ b → c ≤ d → Was P a c s → Was P b d s
was_more P a b c d s ab cd (inl w) = inl (record { seed = w.seed; height = w.height; range = w.range; low = omega (arith, w.low, ab); is = w.is })
was_more P a b c d s ab cd (inr w) = inr (record { seed = w.seed; height = w.height; turn = w.turn; range = w.range; low = omega (arith, w.low, cd); known = w.known; is = w.is })
