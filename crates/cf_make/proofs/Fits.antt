-- A made block has a spelling, and its header stands for its transactions.
use Rattle.std.proofs.Common.{◌≡◌, ℕ, suc, ◌+◌, ◌%◌, ◌<◌, ◌≤◌, ◌==◌, Bool, true, false, List, [], ◌∷◌, ◌++◌, map, length, Option, Some, None, refl, ap, arith, lit≤, lit<, rules, bytes_eq}
use Rattle.std.specs.Bool.{if◌then◌else◌}
use Rattle.std.specs.Prelude.{◌||◌, ◌≢◌}
use Rattle.std.proofs.lemmas.List.{length-append}
use Rattle.std.proofs.lemmas.Slice.Eq.{bytes_eq-Decides}
use Rattle.std.specs.List.{flat_map, AllByRecursion}
use Rattle.cf_bytes.specs.Compact.{compact}
use Rattle.cf_bytes.specs.Hash.{hash_of}
use Rattle.cf_bytes.proofs.HashLemmas.{length-hash_of}
use Rattle.cf_block.specs.declared.header.Header.{Header}
use Rattle.cf_block.specs.declared.tx.OutPoint.{OutPoint}
use Rattle.cf_block.specs.declared.tx.Tx.{Tx}
use Rattle.cf_block.specs.Header.{IsHash, IsHeader, header_spelling}
use Rattle.cf_block.specs.Merkle.{merkle_root_of, root_within, is_mutated, is_mutated_within, txids, None64}
use Rattle.cf_block.specs.Tx.{IsTx, IsBlock, tx_spelling, block_spelling}
use Rattle.cf_block.specs.Commitment.{IsCommitted}
use Rattle.cf_headers.specs.Chain.{height_limit}
use Rattle.cf_make.specs.declared.tipped.Tip.{Tip}
use Rattle.cf_make.specs.Mined.{with_nonce}
use Rattle.cf_make.specs.Made.{coinbase_of, second_of, seconds_of, made_txs, made_header, max_tries}
use Rattle.cf_make.proofs.Spelled.{coinbase_size, second_size, coinbase_is_tx, second_is_tx, header_size}
use Rattle.cf_make.proofs.Apart.{Apart}

-- a second transaction or none
pub seconds_cases : (F : List Tx → Type 0) (o : Option OutPoint) (turn : ℕ) → F [] → ((c : OutPoint) → o ≡ Some c → F (second_of c turn ∷ [])) → F (seconds_of o turn)
seconds_cases F None turn none one = none
seconds_cases F (Some c) turn none one = elim (turn % 3 == 0) as (λ b. F (if b then second_of c turn ∷ [] else [])) [ true ↦ one c refl | false ↦ none ]

-- one or two transactions that have a spelling, and so has a block of them
pub record AreSpelled (ts : List Tx) : Type 0 where
  pub some : 1 ≤ length ts
  pub few : length ts ≤ 2
  pub each : AllByRecursion IsTx ts
  pub root : length (merkle_root_of (txids (map tx_spelling ts))) ≡ 32
  pub size : length (compact (length ts) ++ flat_map tx_spelling ts) ≤ 1000

-- one or two transactions that may stand in a block
pub record AreFit (ts : List Tx) : Type 0 where
  pub spelled : AreSpelled ts
  pub none64 : None64 (map tx_spelling ts)
  pub unmutated : is_mutated (txids (map tx_spelling ts)) ≡ false

apart_64 : (s : List ℕ) (n : ℕ) → length s ≡ n → 64 < n → length s ≢ 64
apart_64 s n is lt e = absurd (omega (arith, is, lt, e))

one_size : (a : List ℕ) → length a ≡ 78 → length (compact 1 ++ (a ++ [])) ≤ 1000
unfolding compact
one_size a is = let e = length-append a [] in let f : length (compact 1 ++ (a ++ [])) ≡ suc (length (a ++ [])) = refl in omega (arith, e, f, is)

two_size : (a b : List ℕ) → length a ≡ 78 → length b ≡ 77 → length (compact 2 ++ (a ++ (b ++ []))) ≤ 1000
unfolding compact
two_size a b is js =
    let e = length-append a (b ++ []) in
    let d = length-append b [] in
    let f : length (compact 2 ++ (a ++ (b ++ []))) ≡ suc (length (a ++ (b ++ []))) = refl in
    omega (arith, d, e, f, is, js)

one_unmutated : (x : List ℕ) → is_mutated (x ∷ []) ≡ false
unfolding is_mutated_within
one_unmutated x = refl

two_unmutated : (x y : List ℕ) → (x ≡ y → ⊥) → is_mutated (x ∷ y ∷ []) ≡ false
unfolding is_mutated_within
two_unmutated x y apart =
    let e : bytes_eq x y ≡ false = elim (bytes_eq x y) as (λ b. bytes_eq x y ≡ b → b ≡ false) [ true ↦ λ e. absurd (apart ((bytes_eq-Decides x y).0 e)) | false ↦ λ e. refl ] refl in
    ap (λ (b : Bool). (b || false) || false) e

one_root : (x : List ℕ) → length x ≡ 32 → length (merkle_root_of (x ∷ [])) ≡ 32
unfolding root_within
one_root x is = is

two_root : (x y : List ℕ) → length (merkle_root_of (x ∷ y ∷ [])) ≡ 32
unfolding root_within
two_root x y = length-hash_of (x ++ y)

one_spelled : (seed height : ℕ) → AreSpelled (coinbase_of seed height ∷ [])
one_spelled seed height =
    let a : List ℕ = tx_spelling (coinbase_of seed height) in
    record {
      some = lit≤ tt;
      few = lit≤ tt;
      each = (coinbase_is_tx seed height, tt);
      root = one_root (hash_of a) (length-hash_of a);
      size = one_size a (coinbase_size seed height);
    }

two_spelled : (seed height turn : ℕ) (c : OutPoint) → IsHash c.txid → c.index ≡ 0 → AreSpelled (coinbase_of seed height ∷ second_of c turn ∷ [])
two_spelled seed height turn c hash first =
    let a : List ℕ = tx_spelling (coinbase_of seed height) in
    let b : List ℕ = tx_spelling (second_of c turn) in
    record {
      some = lit≤ tt;
      few = lit≤ tt;
      each = (coinbase_is_tx seed height, (second_is_tx c turn hash first, tt));
      root = two_root (hash_of a) (hash_of b);
      size = two_size a b (coinbase_size seed height) (second_size c turn hash);
    }

pub txs_spelled : (seed height : ℕ) (o : Option OutPoint) → ((c : OutPoint) → o ≡ Some c → IsHash c.txid × (c.index ≡ 0)) → AreSpelled (made_txs seed height o)
txs_spelled seed height o coins =
    seconds_cases (λ ts. AreSpelled (coinbase_of seed height ∷ ts)) o (seed + height)
    (one_spelled seed height)
    (λ c e. two_spelled seed height (seed + height) c (coins c e).0 (coins c e).1)

one_fits : (seed height : ℕ) → AreFit (coinbase_of seed height ∷ [])
one_fits seed height =
    let a : List ℕ = tx_spelling (coinbase_of seed height) in
    record {
      spelled = one_spelled seed height;
      none64 = (apart_64 a 78 (coinbase_size seed height) (lit< tt), tt);
      unmutated = one_unmutated (hash_of a);
    }

sizes_apart : (a b : List ℕ) → length a ≡ 78 → length b ≡ 77 → a ≡ b → ⊥
sizes_apart a b is js e = let n : length a ≡ length b = ap (λ (s : List ℕ). length s) e in absurd (omega (arith, is, js, n))

two_fit : (P : List ℕ → Type 0) → Apart P → (seed height turn : ℕ) (c : OutPoint) → IsHash c.txid → c.index ≡ 0 → P (tx_spelling (coinbase_of seed height)) → P (tx_spelling (second_of c turn))
    → AreFit (coinbase_of seed height ∷ second_of c turn ∷ [])
two_fit P apart seed height turn c hash first ka kb =
    let a : List ℕ = tx_spelling (coinbase_of seed height) in
    let b : List ℕ = tx_spelling (second_of c turn) in
    record {
      spelled = two_spelled seed height turn c hash first;
      none64 = (apart_64 a 78 (coinbase_size seed height) (lit< tt), (apart_64 b 77 (second_size c turn hash) (lit< tt), tt));
      unmutated = two_unmutated (hash_of a) (hash_of b) (λ e. sizes_apart a b (coinbase_size seed height) (second_size c turn hash) (apart a b ka kb e));
    }

abbrev pub AllKnown : (List ℕ → Type 0) → List Tx → Type 0
AllKnown P [] = Unit {0}
AllKnown P (t ∷ ts) = P (tx_spelling t) × AllKnown P ts

pub txs_fit : (P : List ℕ → Type 0) → Apart P → (seed height : ℕ) (o : Option OutPoint) → ((c : OutPoint) → o ≡ Some c → IsHash c.txid × (c.index ≡ 0)) → AllKnown P (made_txs seed height o)
    → AreFit (made_txs seed height o)
txs_fit P apart seed height o coins known =
    seconds_cases (λ ts. AllKnown P (coinbase_of seed height ∷ ts) → AreFit (coinbase_of seed height ∷ ts)) o (seed + height)
    (λ k. one_fits seed height)
    (λ c e k. two_fit P apart seed height (seed + height) c (coins c e).0 (coins c e).1 k.0 k.1.0)
    known

-- the header of a made block
pub header_fits : (seed height nonce : ℕ) (t : Tip) → height ≤ height_limit → nonce < max_tries → IsHash t.hash → length (merkle_root_of (txids (map tx_spelling (made_txs seed height t.coin)))) ≡ 32
    → IsHeader (with_nonce (made_header seed height t) nonce)
unfolding made_header
header_fits seed height nonce t low within hash root = record {
  version = search rules;
  previous = hash;
  root = root;
  time = omega (arith, low);
  bits = lit< tt;
  nonce = omega (arith, within);
}

pub header_root : (seed height nonce : ℕ) (t : Tip) → (with_nonce (made_header seed height t) nonce).root.0 ≡ merkle_root_of (txids (map tx_spelling (made_txs seed height t.coin)))
unfolding made_header
header_root seed height nonce t = refl

block_size : (h : Header) (ts : List Tx) → IsHeader h → AreSpelled ts → length (block_spelling (record { header = h; txs = ts })) ≤ 1000000
unfolding block_spelling
block_size h ts is fit =
    let e = length-append (header_spelling h) (compact (length ts) ++ flat_map tx_spelling ts) in
    omega (arith, e, header_size h is.previous is.root, fit.size)

pub block_fits : (h : Header) (ts : List Tx) → IsHeader h → AreSpelled ts → IsBlock (record { header = h; txs = ts })
block_fits h ts is fit = record {
  header = is;
  some_txs = fit.some;
  few_txs = omega (arith, fit.few);
  txs = fit.each;
  short = block_size h ts is fit;
}

pub block_committed : (h : Header) (ts : List Tx) → AreFit ts → h.root.0 ≡ merkle_root_of (txids (map tx_spelling ts)) → IsCommitted (record { header = h; txs = ts })
block_committed h ts fit root = record { some = omega (arith, fit.spelled.some); root = root; unmutated = fit.unmutated; none64 = fit.none64 }
