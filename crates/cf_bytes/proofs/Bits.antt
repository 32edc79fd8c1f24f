-- Numbers and their bits.
use Rattle.std.proofs.Common.{◌≡◌, ℕ, suc, zero, ◌+◌, ◌*◌, ◌-◌, ◌/◌, ◌%◌, ◌^◌, ◌<◌, ◌≤◌, ◌∷◌, ◌++◌, length, refl, ◌∙◌, ap, arith}
use Rattle.std.specs.Prelude.{◌==◌}
use Rattle.std.specs.Int.{bit_at}
use Rattle.std.proofs.lemmas.Nat.Bits.{bit_at_cat_low, bit_at_cat_high}
use Rattle.std.proofs.Math.Nat.{div-add-mod, mod-lt}
use Rattle.std.proofs.lemmas.Nat.{pow_pos}
use Rattle.cf_bytes.specs.Bits.{bits_of}

pub length-bits_of : (k v : ℕ) → length (bits_of k v) ≡ k
unfolding bits_of
length-bits_of zero v = refl
length-bits_of (suc k) v = ap suc (length-bits_of k v)

-- the low bits don't see what stands above them
pub bits_low : (j k a b : ℕ) → j ≤ k → bits_of j (a * 2 ^ k + b) ≡ bits_of j b
unfolding bits_of
bits_low zero k a b le = refl
bits_low (suc j) k a b le =
    let first : bit_at (a * 2 ^ k + b) j ≡ bit_at b j = bit_at_cat_low a k b j (omega arith) in
    let others : bits_of j (a * 2 ^ k + b) ≡ bits_of j b = bits_low j k a b (omega arith) in
    λ i. (first i == 1) ∷ others i

-- bits of a number, and then those of another below them
pub bits_cat : (n k a b : ℕ) → b < 2 ^ k → bits_of (n + k) (a * 2 ^ k + b) ≡ bits_of n a ++ bits_of k b
unfolding bits_of
bits_cat zero k a b lt =
    let none : zero + k ≡ k = omega arith in
    ap (λ j. bits_of j (a * 2 ^ k + b)) none ∙ bits_low k k a b (omega arith)
bits_cat (suc n) k a b lt =
    let more : suc n + k ≡ suc (n + k) = omega arith in
    let at : n + k - k ≡ n = omega arith in
    let first : bit_at (a * 2 ^ k + b) (n + k) ≡ bit_at a n = bit_at_cat_high a k b (n + k) lt (omega arith) ∙ ap (bit_at a) at in
    let others : bits_of (n + k) (a * 2 ^ k + b) ≡ bits_of n a ++ bits_of k b = bits_cat n k a b lt in
    ap (λ j. bits_of j (a * 2 ^ k + b)) more ∙ (λ i. (first i == 1) ∷ others i)

-- the same, where the number is given
pub bits_split : (n k v : ℕ) → bits_of (n + k) v ≡ bits_of n (v / 2 ^ k) ++ bits_of k (v % 2 ^ k)
bits_split n k v =
    let whole : v ≡ v / 2 ^ k * 2 ^ k + v % 2 ^ k = omega (arith, div-add-mod v (2 ^ k)) in
    ap (bits_of (n + k)) whole ∙ bits_cat n k (v / 2 ^ k) (v % 2 ^ k) (mod-lt v (pow_pos k))
