-- Numbers and their bits.
use Rattle.std.proofs.Common.{◌≡◌, ℕ, suc, zero, ◌+◌, ◌*◌, ◌-◌, ◌/◌, ◌%◌, ◌^◌, ◌<◌, ◌≤◌, Bool, true, false, List, [], ◌∷◌, ◌++◌, length, drop, take, inl, inr, refl, sym, ◌∙◌, ap, arith, append_assoc, length-append}
use Rattle.std.specs.Prelude.{◌==◌, ◌||◌, nat_lt, replicate}
use Rattle.std.specs.List.{list_any}
use Rattle.std.specs.Int.{bit_at}
use Rattle.std.proofs.lemmas.Nat.Bits.{bit_at_cat_low, bit_at_cat_high, bit_at-lt, bit_at-zero, same_from_bits_below}
use Rattle.std.proofs.Math.Nat.{mul-le-mul_left, div-add-mod, mod-lt, mod-eq_of_lt}
use Rattle.std.proofs.lemmas.Nat.{pow_pos, pow-add, pow_below, shl_below, shr_below}
use Rattle.std.proofs.lemmas.List.{append-nil, append_cancel_left, take_at, drop_at, length-replicate}
use Rattle.std.proofs.lemmas.List.Elements.{All-push}
use Rattle.std.proofs.lemmas.Bool.{cases_lt, lt-ltb, le-ltb}
use Rattle.std.proofs.lemmas.Grind.{flat_map-append}
use Rattle.cf_bytes.proofs.Bits.{length-bits_of, bits_cat, bits_split}
use Rattle.cf_bytes.specs.Bits.{bits_of}
use Rattle.cf_address.specs.Bits.{all_bits, AreBelow, AreFivesOf}
use Rattle.cf_address.specs.Faults.{left_over, is_more}

pub length-all_bits : (k : ℕ) (vs : List ℕ) → length (all_bits k vs) ≡ k * length vs
length-all_bits k [] = omega arith
length-all_bits k (v ∷ vs) = length-append (bits_of k v) (all_bits k vs) ∙ omega (arith, length-bits_of k v, length-all_bits k vs)

pub one_shl : (j : ℕ) → j < 32 → 1 * 2 ^ j % 4294967296 ≡ 2 ^ j
one_shl j lt =
    let fits : 1 * 2 ^ j < 4294967296 = omega (arith, pow_below j 32 lt) in
    mod-eq_of_lt fits ∙ omega arith

pub join_fits : (n k w v : ℕ) → w < 2 ^ n → v < 2 ^ k → w * 2 ^ k + v < 2 ^ (n + k)
join_fits n k w v lt small = omega (arith, pow-add 2 n k, mul-le-mul_left (2 ^ k) lt)

pub pow_at_most : (j k : ℕ) → j ≤ k → 2 ^ j ≤ 2 ^ k
pow_at_most j k le = elim (cases_lt j k) [ inl less ↦ (let lt : 2 ^ j < 2 ^ k = pow_below j k less in omega arith) | inr more ↦ (let same : j ≡ k = omega arith in rw same (omega arith)) ]

pub upper_below : (w n k : ℕ) → w < 2 ^ (n + k) → w / 2 ^ n < 2 ^ k
upper_below w n k lt = let turned : n + k ≡ k + n = omega arith in shr_below w k n (rw turned at lt)

pub fill_fits : (n w : ℕ) → n < 5 → w < 2 ^ n → w * 2 ^ (5 - n) < 32
fill_fits n w few lt =
    let five : n + (5 - n) ≡ 5 = omega arith in
    let whole : 2 ^ (n + (5 - n)) ≡ 32 = ap (λ k. 2 ^ k) five in
    omega (arith, shl_below w n (5 - n) lt, whole)

-- a number more
pub all_bits_push : (k : ℕ) (vs : List ℕ) (v : ℕ) → all_bits k (vs ++ v ∷ []) ≡ all_bits k vs ++ bits_of k v
all_bits_push k vs v = flat_map-append (bits_of k) vs (v ∷ []) ∙ ap (λ s. all_bits k vs ++ s) (append-nil (bits_of k v))

-- a number goes from the front of a word to the others
pub flushed : (k : ℕ) (vs new : List ℕ) (n j w high low : ℕ) → new ≡ vs ++ high ∷ [] → j + k ≡ n → high ≡ w / 2 ^ j → low ≡ w % 2 ^ j
    → all_bits k vs ++ bits_of n w ≡ all_bits k new ++ bits_of j low
flushed k vs new n j w high low is count above below =
    let turned : n ≡ k + j = omega arith in
    let parts : bits_of n w ≡ bits_of k high ++ bits_of j low = ap (λ m. bits_of m w) turned ∙ bits_split k j w ∙ (λ i. bits_of k (sym above i) ++ bits_of j (sym below i)) in
    ap (λ s. all_bits k vs ++ s) parts ∙ sym (append_assoc (all_bits k vs) (bits_of k high) (bits_of j low))
    ∙ ap (λ s. s ++ bits_of j low) (sym (ap (all_bits k) is ∙ all_bits_push k vs high))

-- a number's bits come after those of a word
pub regrouped : (from to : ℕ) (taken more out new : List ℕ) (n w v j m n' w' : ℕ) → more ≡ taken ++ v ∷ [] → all_bits from taken ≡ all_bits to out ++ bits_of n w
    → bits_of j m ≡ bits_of n w ++ bits_of from v → all_bits to out ++ bits_of j m ≡ all_bits to new ++ bits_of n' w' → all_bits from more ≡ all_bits to new ++ bits_of n' w'
regrouped from to taken more out new n w v j m n' w' is so_far joined flushed =
    ap (all_bits from) is ∙ all_bits_push from taken v ∙ ap (λ s. s ++ bits_of from v) so_far ∙ append_assoc (all_bits to out) (bits_of n w) (bits_of from v)
    ∙ ap (λ s. all_bits to out ++ s) (sym joined) ∙ flushed

-- no bit is set in zero
pub bits_of-zero : (k : ℕ) → bits_of k 0 ≡ replicate k false
unfolding bits_of
bits_of-zero zero = refl
bits_of-zero (suc k) = let first : (bit_at 0 k == 1) ≡ false = ap (λ b. b == 1) (bit_at-zero k) in λ i. first i ∷ bits_of-zero k i

-- bits filled up with zeros
pub bits_filled : (n k w : ℕ) → bits_of (n + k) (w * 2 ^ k) ≡ bits_of n w ++ replicate k false
bits_filled n k w =
    let whole : w * 2 ^ k ≡ w * 2 ^ k + 0 = omega arith in
    ap (bits_of (n + k)) whole ∙ bits_cat n k w 0 (pow_pos k) ∙ ap (λ s. bits_of n w ++ s) (bits_of-zero k)

bit_from_test : (x y : ℕ) → x < 2 → y < 2 → (x == 1) ≡ (y == 1) → x ≡ y
bit_from_test zero zero lx ly h = refl
bit_from_test zero (suc zero) lx ly h = cc
bit_from_test (suc zero) zero lx ly h = cc
bit_from_test (suc zero) (suc zero) lx ly h = refl
bit_from_test (suc (suc x)) y lx ly h = absurd (omega arith)
bit_from_test zero (suc (suc y)) lx ly h = absurd (omega arith)
bit_from_test (suc zero) (suc (suc y)) lx ly h = absurd (omega arith)

-- the bits of two numbers are those that stand in their lists
bits_agree : (k v w : ℕ) → bits_of k v ≡ bits_of k w → (i : ℕ) → i < k → bit_at v i ≡ bit_at w i
unfolding bits_of
bits_agree zero v w h i lt = absurd (omega arith)
bits_agree (suc k) v w h i lt =
    let first : (bit_at v k == 1) ≡ (bit_at w k == 1) = cc in
    let others : bits_of k v ≡ bits_of k w = cc in
    one_of k i v w (bit_from_test (bit_at v k) (bit_at w k) (bit_at-lt v k) (bit_at-lt w k) first) lt (bits_agree k v w others i)
  where
    one_of : (k i v w : ℕ) → bit_at v k ≡ bit_at w k → i < suc k → (i < k → bit_at v i ≡ bit_at w i) → bit_at v i ≡ bit_at w i
    one_of k i v w here lt below = elim (cases_lt i k) [ inl less ↦ below less | inr more ↦ (let same : i ≡ k = omega arith in ap (bit_at v) same ∙ here ∙ ap (bit_at w) (sym same)) ]

pub same_number : (k v w : ℕ) → v < 2 ^ k → w < 2 ^ k → bits_of k v ≡ bits_of k w → v ≡ w
same_number k v w lv lw h = same_from_bits_below k v w lv lw (bits_agree k v w h)

both_parts : (k : ℕ) (v w : ℕ) (s t : List Bool) → bits_of k v ++ s ≡ bits_of k w ++ t → (bits_of k v ≡ bits_of k w) × (s ≡ t)
both_parts k v w s t h =
    let front : bits_of k v ≡ bits_of k w = sym (take_at (bits_of k v) s k (length-bits_of k v)) ∙ ap (take k) h ∙ take_at (bits_of k w) t k (length-bits_of k w) in
    (front, append_cancel_left (bits_of k w) s t (sym (ap (λ x. x ++ s) front) ∙ h))

-- numbers of k bits are the same where their bits are
pub same_numbers : (k : ℕ) (vs ws : List ℕ) → AreBelow (2 ^ k) vs → AreBelow (2 ^ k) ws → length vs ≡ length ws → all_bits k vs ≡ all_bits k ws → vs ≡ ws
same_numbers k [] [] bv bw le h = refl
same_numbers k [] (w ∷ ws) bv bw le h = cc
same_numbers k (v ∷ vs) [] bv bw le h = cc
same_numbers k (v ∷ vs) (w ∷ ws) bv bw le h =
    let parts = both_parts k v w (all_bits k vs) (all_bits k ws) h in
    let first : v ≡ w = same_number k v w (bv 0 0 (omega arith)) (bw 0 0 (omega arith)) parts.0 in
    let others : vs ≡ ws = same_numbers k vs ws (λ i d lt. bv (suc i) d (omega arith)) (λ i d lt. bw (suc i) d (omega arith)) (omega arith) parts.1 in
    λ i. first i ∷ others i

-- what is left over where all but n bits fill bytes
pub left_is : (bits : List Bool) (whole : List ℕ) (n w : ℕ) → bits ≡ all_bits 8 whole ++ bits_of n w → n < 8 → (left_over bits ≡ bits_of n w) × (length bits / 8 ≡ length whole)
left_is bits whole n w is few =
    let count : length bits ≡ 8 * length whole + n = ap length is ∙ length-append (all_bits 8 whole) (bits_of n w) ∙ omega (arith, length-all_bits 8 whole, length-bits_of n w) in
    let bytes : length bits / 8 ≡ length whole = omega arith in
    let front : length (all_bits 8 whole) ≡ 8 * (length bits / 8) = omega (arith, length-all_bits 8 whole) in
    (ap (drop (8 * (length bits / 8))) is ∙ drop_at (all_bits 8 whole) (bits_of n w) (8 * (length bits / 8)) front, bytes)

pub many_are_more : (n w : ℕ) → 4 < n → is_more (bits_of n w) ≡ true
many_are_more n w lt = ap (λ b. b || list_any (λ x. x) (bits_of n w)) (lt-ltb 4 (length (bits_of n w)) (omega (arith, length-bits_of n w)))

any_false : (bs : List Bool) → list_any (λ b. b) bs ≡ false → bs ≡ replicate (length bs) false
any_false [] h = refl
any_false (true ∷ bs) h = cc
any_false (false ∷ bs) h = ap (λ s. false ∷ s) (any_false bs h)

or_true : (b : Bool) → (b || true) ≡ true
or_true true = refl
or_true false = refl

pub set_is_more : (n w : ℕ) → w < 2 ^ n → (w ≡ 0 → ⊥) → is_more (bits_of n w) ≡ true
set_is_more n w lt some = at (list_any (λ b. b) (bits_of n w)) refl
  where
    at : (b : Bool) → list_any (λ b. b) (bits_of n w) ≡ b → is_more (bits_of n w) ≡ true
    at true is = ap (λ b. nat_lt 4 (length (bits_of n w)) || b) is ∙ or_true (nat_lt 4 (length (bits_of n w)))
    at false is =
        let none : bits_of n w ≡ bits_of n 0 = any_false (bits_of n w) is ∙ ap (λ k. replicate k false) (length-bits_of n w) ∙ sym (bits_of-zero n) in
        absurd (some (same_number n w 0 lt (pow_pos n) none))

none_set : (k : ℕ) → list_any (λ b. b) (replicate k false) ≡ false
none_set zero = refl
none_set (suc k) = none_set k

pub few_are_none : (n : ℕ) → n ≤ 4 → is_more (replicate n false) ≡ false
few_are_none n le = (λ i. nat_lt 4 (length-replicate n false i) || none_set n i) ∙ ap (λ b. b || false) (le-ltb 4 n le)

-- bytes are read from fives
pub fives_hold : (fives whole : List ℕ) (n w : ℕ) → all_bits 5 fives ≡ all_bits 8 whole ++ bits_of n w → n ≤ 4 → w ≡ 0 → AreBelow 32 fives → AreFivesOf whole fives
fives_hold fives whole n w is few none small = record {
  zeros = n;
  few = omega arith;
  same = is ∙ ap (λ s. all_bits 8 whole ++ s) (ap (bits_of n) none ∙ bits_of-zero n);
  small = small;
}

pub no_more : (fives whole : List ℕ) (n w : ℕ) → all_bits 5 fives ≡ all_bits 8 whole ++ bits_of n w → n ≤ 4 → w ≡ 0 → (is_more (left_over (all_bits 5 fives)) ≡ false) × (length (all_bits 5 fives) / 8 ≡ length whole)
no_more fives whole n w is few none =
    let left = left_is (all_bits 5 fives) whole n w is (omega arith) in
    (ap is_more (left.0 ∙ ap (bits_of n) none ∙ bits_of-zero n) ∙ few_are_none n few, left.1)

-- the last of the fives is filled up
pub filled : (bytes whole fives : List ℕ) (n w last : ℕ) → all_bits 8 bytes ≡ all_bits 5 whole ++ bits_of n w → 0 < n → n < 5 → last ≡ w * 2 ^ (5 - n) → last < 32 → AreBelow 32 whole → fives ≡ whole ++ last ∷ [] → AreFivesOf bytes fives
filled bytes whole fives n w last is some few last_is small below now =
    let five : 5 ≡ n + (5 - n) = omega arith in
    let end : bits_of 5 last ≡ bits_of n w ++ replicate (5 - n) false = (λ i. bits_of (five i) (last_is i)) ∙ bits_filled n (5 - n) w in
    record {
      zeros = 5 - n;
      few = omega arith;
      same = ap (all_bits 5) now ∙ all_bits_push 5 whole last ∙ ap (λ s. all_bits 5 whole ++ s) end ∙ sym (append_assoc (all_bits 5 whole) (bits_of n w) (replicate (5 - n) false)) ∙ ap (λ s. s ++ replicate (5 - n) false) (sym is);
      small = rw now (All-push (λ v. v < 32) whole last below small);
    }

pub none_filled : (bytes whole fives : List ℕ) (n w : ℕ) → all_bits 8 bytes ≡ all_bits 5 whole ++ bits_of n w → n ≡ 0 → AreBelow 32 whole → fives ≡ whole → AreFivesOf bytes fives
unfolding bits_of
none_filled bytes whole fives n w is none below now = record {
  zeros = 0;
  few = omega arith;
  same = ap (all_bits 5) now ∙ sym (append-nil (all_bits 5 whole)) ∙ sym (is ∙ ap (λ k. all_bits 5 whole ++ bits_of k w) none) ∙ sym (append-nil (all_bits 8 bytes));
  small = rw now below;
}

-- fives are those of one list of bytes, and bytes have one list of fives
same_front : (s t : List Bool) (j k : ℕ) → s ++ replicate j false ≡ t ++ replicate k false → length s ≡ length t → s ≡ t
same_front s t j k h le = sym (take_at s (replicate j false) (length s) refl) ∙ ap (take (length s)) h ∙ take_at t (replicate k false) (length s) (sym le)

padded_length : (bytes fives : List ℕ) (zeros : ℕ) → all_bits 5 fives ≡ all_bits 8 bytes ++ replicate zeros false → 5 * length fives ≡ 8 * length bytes + zeros
padded_length bytes fives zeros h =
    let count : length (all_bits 5 fives) ≡ length (all_bits 8 bytes) + length (replicate zeros false) = ap length h ∙ length-append (all_bits 8 bytes) (replicate zeros false) in
    omega (arith, count, length-all_bits 5 fives, length-all_bits 8 bytes, length-replicate zeros false)

pub length_of_fives : (bytes fives : List ℕ) (f : AreFivesOf bytes fives) → 5 * length fives ≡ 8 * length bytes + f.zeros
length_of_fives bytes fives f = padded_length bytes fives f.zeros f.same

pub one_list_of_bytes : (a b fives : List ℕ) → AreBelow 256 a → AreBelow 256 b → AreFivesOf a fives → AreFivesOf b fives → a ≡ b
one_list_of_bytes a b fives below_a below_b fa fb =
    let na : 5 * length fives ≡ 8 * length a + fa.zeros = length_of_fives a fives fa in
    let nb : 5 * length fives ≡ 8 * length b + fb.zeros = length_of_fives b fives fb in
    let za : fa.zeros < 5 = fa.few in
    let zb : fb.zeros < 5 = fb.few in
    let le : length a ≡ length b = omega arith in
    let front : length (all_bits 8 a) ≡ length (all_bits 8 b) = omega (arith, length-all_bits 8 a, length-all_bits 8 b) in
    same_numbers 8 a b below_a below_b le (same_front (all_bits 8 a) (all_bits 8 b) fa.zeros fb.zeros (sym fa.same ∙ fb.same) front)

pub one_list_of_fives : (bytes v w : List ℕ) → AreFivesOf bytes v → AreFivesOf bytes w → v ≡ w
one_list_of_fives bytes v w fv fw =
    let nv : 5 * length v ≡ 8 * length bytes + fv.zeros = length_of_fives bytes v fv in
    let nw : 5 * length w ≡ 8 * length bytes + fw.zeros = length_of_fives bytes w fw in
    let zv : fv.zeros < 5 = fv.few in
    let zw : fw.zeros < 5 = fw.few in
    let le : length v ≡ length w = omega arith in
    let zeros : fv.zeros ≡ fw.zeros = omega arith in
    same_numbers 5 v w fv.small fw.small le (fv.same ∙ ap (λ k. all_bits 8 bytes ++ replicate k false) zeros ∙ sym fw.same)

-- no fault is found in the bits of a program
pub fives_pass : (bytes fives : List ℕ) → AreFivesOf bytes fives → (is_more (left_over (all_bits 5 fives)) ≡ false) × (length (all_bits 5 fives) / 8 ≡ length bytes)
fives_pass bytes fives f =
    let few : f.zeros < 5 = f.few in
    no_more fives bytes f.zeros 0 (f.same ∙ ap (λ s. all_bits 8 bytes ++ s) (sym (bits_of-zero f.zeros))) (omega arith) refl
