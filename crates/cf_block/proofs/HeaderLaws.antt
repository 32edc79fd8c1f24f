-- What is spelled is read again.
use Rattle.std.proofs.Common.{◌≡◌, ℕ, List, [], ◌++◌, length, Ok, refl, sym, ap, ◌∙◌, arith}
use Rattle.std.specs.Int.{w32, to_le_bytes, cast_unsigned}
use Rattle.cf_bytes.specs.Cut.{bytes_at, number_at, int_at}
use Rattle.cf_bytes.specs.declared.hash.Hash32.{Hash32}
use Rattle.cf_bytes.proofs.Codecs.{bind_is, value_of, bytes_again, u32_again, i32_again}
use Rattle.cf_bytes.proofs.HashLemmas.{length-hash_of}
use Rattle.cf_block.proofs.Joins.{regrouped}
use Rattle.cf_block.specs.declared.header.Header.{Header}
use Rattle.cf_block.specs.Header.{IsHash, IsHeader, header_spelling, hash_at, header_fields_at, whole_header, header_at, block_hash_of, genesis_header}

pub hash_again : (h : Hash32) (more : List ℕ) → IsHash h → hash_at (h.0 ++ more) ≡ Ok (h, more)
hash_again h more e = bind_is (bytes_at 32 (h.0 ++ more)) (h.0, more) (λ x. Ok (record { 0 = x.0 }, x.1)) (bytes_again 32 h.0 more e)

fields_of : (h : Header) (b0 b1 b2 b3 b4 b5 b6 : List ℕ)
    → int_at w32 b0 ≡ Ok (h.version, b1) → hash_at b1 ≡ Ok (h.previous, b2) → hash_at b2 ≡ Ok (h.root, b3)
    → number_at w32 b3 ≡ Ok (h.time, b4) → number_at w32 b4 ≡ Ok (h.bits, b5) → number_at w32 b5 ≡ Ok (h.nonce, b6)
    → header_fields_at b0 ≡ Ok (h, b6)
unfolding header_fields_at
fields_of h b0 b1 b2 b3 b4 b5 b6 e0 e1 e2 e3 e4 e5 =
    bind_is (int_at w32 b0) (h.version, b1) _ e0 ∙ bind_is (hash_at b1) (h.previous, b2) _ e1 ∙ bind_is (hash_at b2) (h.root, b3) _ e2
    ∙ bind_is (number_at w32 b3) (h.time, b4) _ e3 ∙ bind_is (number_at w32 b4) (h.bits, b5) _ e4 ∙ bind_is (number_at w32 b5) (h.nonce, b6) _ e5

pub header_fields_again : (h : Header) (more : List ℕ) → IsHeader h → header_fields_at (header_spelling h ++ more) ≡ Ok (h, more)
unfolding header_spelling
header_fields_again h more fits =
    let b6 : List ℕ = more in
    let b5 : List ℕ = to_le_bytes w32 h.nonce ++ b6 in
    let b4 : List ℕ = to_le_bytes w32 h.bits ++ b5 in
    let b3 : List ℕ = to_le_bytes w32 h.time ++ b4 in
    let b2 : List ℕ = h.root.0 ++ b3 in
    let b1 : List ℕ = h.previous.0 ++ b2 in
    let b0 : List ℕ = to_le_bytes w32 (cast_unsigned w32 h.version) ++ b1 in
    ap header_fields_at (sym (regrouped (to_le_bytes w32 (cast_unsigned w32 h.version)) h.previous.0 h.root.0 (to_le_bytes w32 h.time) (to_le_bytes w32 h.bits) (to_le_bytes w32 h.nonce) more))
    ∙ fields_of h b0 b1 b2 b3 b4 b5 b6 (i32_again h.version b1 fits.version) (hash_again h.previous b2 fits.previous) (hash_again h.root b3 fits.root)
    (u32_again h.time b4 fits.time) (u32_again h.bits b5 fits.bits) (u32_again h.nonce b6 fits.nonce)

pub header_again : (h : Header) (more : List ℕ) → IsHeader h → header_at (header_spelling h ++ more) ≡ Ok (h, more)
unfolding header_at
header_again h more fits = ap (whole_header (header_spelling h ++ more)) (header_fields_again h more fits)

pub header_one : (a b : Header) → IsHeader a → IsHeader b → header_spelling a ≡ header_spelling b → a ≡ b
header_one a b fa fb e =
    let ra : header_at (header_spelling a ++ []) ≡ Ok (a, []) = header_again a [] fa in
    let rb : header_at (header_spelling a ++ []) ≡ Ok (b, []) = ap (λ (s : List ℕ). header_at (s ++ [])) e ∙ header_again b [] fb in
    ap (λ p. p.0) (value_of (a, []) (b, []) (header_at (header_spelling a ++ [])) ra rb)

pub block_hash_length : (h : Header) → length (block_hash_of h) ≡ 32
unfolding block_hash_of
block_hash_length h = length-hash_of (header_spelling h)

pub genesis_fits : IsHeader genesis_header
unfolding genesis_header
genesis_fits = record { version = record { sfits = omega arith }; previous = refl; root = refl; time = omega arith; bits = omega arith; nonce = omega arith }
