-- statement: SipHash-2-4 (Aumasson and Bernstein, "SipHash: a fast short-input PRF"). Numbers are below 2 ^ 64.
use Rattle.std.specs.Prelude.{ℕ, zero, suc, ◌+◌, ◌-◌, ◌*◌, ◌/◌, ◌%◌, ◌^◌, List, [], ◌∷◌, ◌++◌, length, take, drop, replicate}
use Rattle.std.specs.Int.{w64, from_le_bytes, rotate_left}
use Rattle.std.specs.Int.Bits.{bit_xor}
use Rattle.std.specs.List.{fold}
use Rattle.cf_siphash.specs.declared.State.{State}

-- the sum of two words
abbrev pub plus : ℕ → ℕ → ℕ
plus a b = (a + b) % 2 ^ 64

-- the state at the start
unfoldable pub start : ℕ → ℕ → State
start k0 k1 = record {
  v0 = bit_xor k0 0x736f6d6570736575;
  v1 = bit_xor k1 0x646f72616e646f6d;
  v2 = bit_xor k0 0x6c7967656e657261;
  v3 = bit_xor k1 0x7465646279746573;
}

-- one round
unfoldable pub round : State → State
round s =
    let a0 = plus s.v0 s.v1 in
    let a1 = bit_xor (rotate_left w64 s.v1 13) a0 in
    let a2 = plus s.v2 s.v3 in
    let a3 = bit_xor (rotate_left w64 s.v3 16) a2 in
    let b0 = plus (rotate_left w64 a0 32) a3 in
    let b2 = plus a2 a1 in
    record {
      v0 = b0;
      v1 = bit_xor (rotate_left w64 a1 17) b2;
      v2 = rotate_left w64 b2 32;
      v3 = bit_xor (rotate_left w64 a3 21) b0;
    }

-- a word goes in: into v3, two rounds, into v0
unfoldable pub absorb : State → ℕ → State
absorb s word =
    let t = round (round (record s { v3 = bit_xor s.v3 word })) in
    record t { v0 = bit_xor t.v0 word }

-- the value at the end: 255 into v2, four rounds, all words together
unfoldable pub finish : State → ℕ
finish s =
    let t = round (round (round (round (record s { v2 = bit_xor s.v2 255 })))) in
    bit_xor (bit_xor (bit_xor t.v0 t.v1) t.v2) t.v3

-- the first n words of some bytes, the low byte first
unfoldable pub words_of : ℕ → List ℕ → List ℕ
words_of zero bytes = []
words_of (suc n) bytes = from_le_bytes w64 (take 8 bytes) ∷ words_of n (drop 8 bytes)

-- fewer than eight bytes that are left, zeros, and the length of all modulo 256 as the top byte
abbrev pub last_word : ℕ → List ℕ → ℕ
last_word len bytes = from_le_bytes w64 (bytes ++ replicate (7 - length bytes) 0 ++ (len % 256 ∷ []))

-- all words
unfoldable pub all_words : ℕ → List ℕ → List ℕ
all_words len bytes = words_of (length bytes / 8) bytes ++ last_word len (drop (length bytes / 8 * 8) bytes) ∷ []

-- SipHash-2-4 of bytes, by the two halves of its key
unfoldable pub sip24_of : ℕ → ℕ → List ℕ → ℕ
sip24_of k0 k1 bytes = finish (fold absorb (start k0 k1) (all_words (length bytes) bytes))
