-- The sizes of what is made, and that it has a spelling.
use Rattle.std.proofs.Common.{◌≡◌, ℕ, suc, ◌+◌, List, [], ◌∷◌, ◌++◌, length, refl, ◌∙◌, ap, arith, lit≤, lit<, rules}
use Rattle.std.specs.Prelude.{pos, FitsSigned}
use Rattle.std.proofs.lemmas.List.{length-append}
use Rattle.std.specs.Int.{w32, to_le_bytes}
use Rattle.std.specs.List.{flat_map}
use Rattle.cf_bytes.specs.Compact.{compact}
use Rattle.cf_bytes.specs.Lists.{counted_bytes}
use Rattle.cf_bytes.proofs.HashLemmas.{length-hash_of}
use Rattle.cf_block.specs.declared.header.Header.{Header}
use Rattle.cf_block.specs.declared.tx.OutPoint.{OutPoint}
use Rattle.cf_block.specs.Header.{IsHash, header_spelling}
use Rattle.cf_block.specs.Outpoint.{outpoint}
use Rattle.cf_block.specs.Tx.{IsTx, input_spelling, output_spelling, tx_spelling, txid_of}
use Rattle.cf_make.specs.Made.{script_of, paid_to, mark_of, coinbase_of, second_of}

-- the coin that a coinbase makes
abbrev pub coin_of : ℕ → ℕ → OutPoint
coin_of seed height = outpoint (txid_of (coinbase_of seed height)) 0

pub coin_hash : (seed height : ℕ) → IsHash (coin_of seed height).txid
unfolding txid_of
coin_hash seed height = length-hash_of (tx_spelling (coinbase_of seed height))

pub coinbase_size : (seed height : ℕ) → length (tx_spelling (coinbase_of seed height)) ≡ 78
unfolding tx_spelling input_spelling output_spelling compact coinbase_of mark_of script_of
coinbase_size seed height = refl

around : (txid x y : List ℕ) → length (((txid ++ x) ++ []) ++ y) ≡ length txid + length x + length y
around txid x y =
    let a = length-append ((txid ++ x) ++ []) y in
    let b = length-append (txid ++ x) [] in
    let c = length-append txid x in
    omega (arith, a, b, c)

pub second_size : (coin : OutPoint) (turn : ℕ) → IsHash coin.txid → length (tx_spelling (second_of coin turn)) ≡ 77
unfolding tx_spelling input_spelling output_spelling compact second_of script_of
second_size coin turn is =
    let x : List ℕ = to_le_bytes w32 coin.index ++ (counted_bytes [] ++ to_le_bytes w32 0xffffffff) in
    let y : List ℕ = compact 2 ++ (flat_map output_spelling (paid_to 2000000000 (turn + 5) ∷ paid_to 3000000000 (turn + 11) ∷ []) ++ to_le_bytes w32 0) in
    let e : length (((coin.txid.0 ++ x) ++ []) ++ y) ≡ 72 = around coin.txid.0 x y ∙ ap (λ (n : ℕ). n + 9 + 31) is in
    ap (λ (n : ℕ). suc (suc (suc (suc (suc n))))) e

version_fits : FitsSigned w32 (pos 1)
version_fits = search rules

pub coinbase_is_tx : (seed height : ℕ) → IsTx (coinbase_of seed height)
unfolding coinbase_of mark_of script_of
coinbase_is_tx seed height = record {
  version = version_fits;
  some_inputs = lit≤ tt;
  few_inputs = lit≤ tt;
  inputs = (record { txid = refl; index = lit< tt; script = lit≤ tt; sequence = lit< tt }, tt);
  some_outputs = lit≤ tt;
  few_outputs = lit≤ tt;
  outputs = (record { value = lit≤ tt; script = lit≤ tt }, tt);
  lock_time = lit< tt;
}

pub second_is_tx : (coin : OutPoint) (turn : ℕ) → IsHash coin.txid → coin.index ≡ 0 → IsTx (second_of coin turn)
unfolding second_of script_of
second_is_tx coin turn is first = record {
  version = version_fits;
  some_inputs = lit≤ tt;
  few_inputs = lit≤ tt;
  inputs = (record { txid = is; index = omega (arith, first); script = lit≤ tt; sequence = lit< tt }, tt);
  some_outputs = lit≤ tt;
  few_outputs = lit≤ tt;
  outputs = (record { value = lit≤ tt; script = lit≤ tt }, (record { value = lit≤ tt; script = lit≤ tt }, tt));
  lock_time = lit< tt;
}

four : (a b c : List ℕ) → length (a ++ (b ++ c)) ≡ length a + length b + length c
four a b c = let e = length-append a (b ++ c) in let f = length-append b c in omega (arith, e, f)

pub header_size : (h : Header) → IsHash h.previous → IsHash h.root → length (header_spelling h) ≡ 80
unfolding header_spelling
header_size h previous root =
    let z : List ℕ = to_le_bytes w32 h.time ++ (to_le_bytes w32 h.bits ++ to_le_bytes w32 h.nonce) in
    let e : length (h.previous.0 ++ (h.root.0 ++ z)) ≡ 76 = four h.previous.0 h.root.0 z ∙ (λ i. previous i + root i + 12) in
    ap (λ (n : ℕ). suc (suc (suc (suc n)))) e
