-- What is left of the sum of two polynomials, and the six values that make a check value right.
use Rattle.std.proofs.Common.{◌≡◌, ℕ, zero, suc, ◌+◌, ◌*◌, ◌/◌, ◌%◌, ◌^◌, ◌<◌, Bool, true, false, List, [], ◌∷◌, ◌++◌, length, lit<, refl, sym, ◌∙◌, ap, arith}
use Rattle.std.proofs.Math.Nat.{mod-eq_of_lt}
use Rattle.std.proofs.lemmas.List.{append_assoc}
use Rattle.std.proofs.lemmas.List.Sums.{fold-append}
use Rattle.std.specs.Prelude.{bit_xor, ◌==◌, if◌then◌else◌, replicate}
use Rattle.std.specs.Int.{bit_at}
use Rattle.std.specs.Int.Bits.{xor_assoc, xor_self, xor_zero_l, xor_zero_r}
use Rattle.std.proofs.lemmas.Nat.{xor_comm, xor_lt, xor_shr, xor_mod, xor_block}
use Rattle.std.proofs.lemmas.Nat.Bits.{bit_at_xor, bit_at-lt}
use Rattle.cf_address.specs.Checksum.{where_set, times_generator, remainder_with, remainder_from, expanded, bech32_checksum, checksum_for}
use Rattle.cf_address.specs.Bits.{AreBelow}
use Rattle.cf_address.specs.Steps.{number_of}

-- two sums of two, the other way round
pub swap_middle : (a b c d : ℕ) → bit_xor (bit_xor a b) (bit_xor c d) ≡ bit_xor (bit_xor a c) (bit_xor b d)
swap_middle a b c d =
    xor_assoc a b (bit_xor c d) ∙ ap (bit_xor a) (sym (xor_assoc b c d) ∙ ap (λ x. bit_xor x d) (xor_comm b c) ∙ xor_assoc c b d) ∙ sym (xor_assoc a c (bit_xor b d))

picked : (x y z g : ℕ) → x < 2 → y < 2 → z ≡ (x + y) % 2 → (if z == 1 then g else 0) ≡ bit_xor (if x == 1 then g else 0) (if y == 1 then g else 0)
picked zero zero z g lx ly is = ap (λ n. if n == 1 then g else 0) is ∙ sym (xor_self 0)
picked zero (suc zero) z g lx ly is = ap (λ n. if n == 1 then g else 0) is ∙ sym (xor_zero_l g)
picked (suc zero) zero z g lx ly is = ap (λ n. if n == 1 then g else 0) is ∙ sym (xor_zero_r g)
picked (suc zero) (suc zero) z g lx ly is = ap (λ n. if n == 1 then g else 0) is ∙ sym (xor_self g)
picked (suc (suc x)) y z g lx ly is = absurd (omega arith)
picked zero (suc (suc y)) z g lx ly is = absurd (omega arith)
picked (suc zero) (suc (suc y)) z g lx ly is = absurd (omega arith)

where_set-xor : (a b i g : ℕ) → where_set (bit_xor a b) i g ≡ bit_xor (where_set a i g) (where_set b i g)
unfolding where_set
where_set-xor a b i g = picked (bit_at a i) (bit_at b i) (bit_at (bit_xor a b) i) g (bit_at-lt a i) (bit_at-lt b i) (bit_at_xor a b i)

sum_of : ℕ → ℕ → ℕ → ℕ → ℕ → ℕ
sum_of a b c d e = bit_xor (bit_xor (bit_xor (bit_xor a b) c) d) e

sum_of-xor : (a b c d e a' b' c' d' e' : ℕ) → sum_of (bit_xor a a') (bit_xor b b') (bit_xor c c') (bit_xor d d') (bit_xor e e') ≡ bit_xor (sum_of a b c d e) (sum_of a' b' c' d' e')
unfolding sum_of
sum_of-xor a b c d e a' b' c' d' e' =
    ap (λ x. bit_xor (bit_xor (bit_xor x (bit_xor c c')) (bit_xor d d')) (bit_xor e e')) (swap_middle a a' b b')
    ∙ ap (λ x. bit_xor (bit_xor x (bit_xor d d')) (bit_xor e e')) (swap_middle (bit_xor a b) (bit_xor a' b') c c')
    ∙ ap (λ x. bit_xor x (bit_xor e e')) (swap_middle (bit_xor (bit_xor a b) c) (bit_xor (bit_xor a' b') c') d d')
    ∙ swap_middle (bit_xor (bit_xor (bit_xor a b) c) d) (bit_xor (bit_xor (bit_xor a' b') c') d') e e'

times_generator-xor : (a b : ℕ) → times_generator (bit_xor a b) ≡ bit_xor (times_generator a) (times_generator b)
unfolding times_generator sum_of
times_generator-xor a b =
    (λ i. sum_of (where_set-xor a b 0 0x3b6a57b2 i) (where_set-xor a b 1 0x26508e6d i) (where_set-xor a b 2 0x1ea119fa i) (where_set-xor a b 3 0x3d4233dd i) (where_set-xor a b 4 0x2a1462b3 i))
    ∙ sum_of-xor (where_set a 0 0x3b6a57b2) (where_set a 1 0x26508e6d) (where_set a 2 0x1ea119fa) (where_set a 3 0x3d4233dd) (where_set a 4 0x2a1462b3)
    (where_set b 0 0x3b6a57b2) (where_set b 1 0x26508e6d) (where_set b 2 0x1ea119fa) (where_set b 3 0x3d4233dd) (where_set b 4 0x2a1462b3)

xor-times_32 : (a b : ℕ) → bit_xor a b * 32 ≡ bit_xor (a * 32) (b * 32)
xor-times_32 a b =
    let parts : bit_xor (a * 2 ^ 5 + 0) (b * 2 ^ 5 + 0) ≡ bit_xor a b * 2 ^ 5 + bit_xor 0 0 = xor_block 5 a b 0 0 (omega arith) (omega arith) in
    let nothing : bit_xor 0 0 ≡ 0 = xor_self 0 in
    let left : a * 2 ^ 5 + 0 ≡ a * 32 = omega arith in
    let right : b * 2 ^ 5 + 0 ≡ b * 32 = omega arith in
    let whole : bit_xor a b * 2 ^ 5 + bit_xor 0 0 ≡ bit_xor a b * 32 = omega (arith, nothing) in
    sym (sym (λ i. bit_xor (left i) (right i)) ∙ parts ∙ whole)

-- one value more, and to the one of two sums alone
pub remainder_with-xor : (a b v : ℕ) → remainder_with (bit_xor a b) v ≡ bit_xor (remainder_with a 0) (remainder_with b v)
unfolding remainder_with
remainder_with-xor a b v =
    let low : bit_xor a b % 2 ^ 25 * 32 ≡ bit_xor (a % 2 ^ 25 * 32) (b % 2 ^ 25 * 32) = ap (λ x. x * 32) (xor_mod a b 25) ∙ xor-times_32 (a % 2 ^ 25) (b % 2 ^ 25) in
    let high : times_generator (bit_xor a b / 2 ^ 25) ≡ bit_xor (times_generator (a / 2 ^ 25)) (times_generator (b / 2 ^ 25)) = ap times_generator (xor_shr a b 25) ∙ times_generator-xor (a / 2 ^ 25) (b / 2 ^ 25) in
    let value : v ≡ bit_xor 0 v = sym (xor_zero_l v) in
    (λ i. bit_xor (bit_xor (low i) (value i)) (high i))
    ∙ ap (λ x. bit_xor x (bit_xor (times_generator (a / 2 ^ 25)) (times_generator (b / 2 ^ 25)))) (swap_middle (a % 2 ^ 25 * 32) (b % 2 ^ 25 * 32) 0 v)
    ∙ swap_middle (bit_xor (a % 2 ^ 25 * 32) 0) (bit_xor (b % 2 ^ 25 * 32) v) (times_generator (a / 2 ^ 25)) (times_generator (b / 2 ^ 25))

-- the same of several values
pub remainder_from-xor : (vs : List ℕ) (a b : ℕ) → remainder_from (bit_xor a b) vs ≡ bit_xor (remainder_from a (replicate (length vs) 0)) (remainder_from b vs)
remainder_from-xor [] a b = refl
remainder_from-xor (v ∷ vs) a b = ap (λ c. remainder_from c vs) (remainder_with-xor a b v) ∙ remainder_from-xor vs (remainder_with a 0) (remainder_with b v)

no_generator : times_generator 0 ≡ 0
unfolding times_generator where_set
no_generator = refl

-- where the upper five bits are free, a value more stands in the lower ones
remainder_small : (b v : ℕ) → b < 2 ^ 25 → v < 32 → remainder_with b v ≡ b * 32 + v
unfolding remainder_with
remainder_small b v lt small =
    let low : b % 2 ^ 25 ≡ b = mod-eq_of_lt lt in
    let high : b / 2 ^ 25 ≡ 0 = omega arith in
    let none : times_generator (b / 2 ^ 25) ≡ 0 = ap times_generator high ∙ no_generator in
    let parts : bit_xor (b * 2 ^ 5 + 0) (0 * 2 ^ 5 + v) ≡ bit_xor b 0 * 2 ^ 5 + bit_xor 0 v = xor_block 5 b 0 0 v (omega arith) (omega arith) in
    let left : b * 32 ≡ b * 2 ^ 5 + 0 = omega arith in
    let right : v ≡ 0 * 2 ^ 5 + v = omega arith in
    let whole : bit_xor b 0 * 2 ^ 5 + bit_xor 0 v ≡ b * 32 + v = (λ i. xor_zero_r b i * 2 ^ 5 + xor_zero_l v i) in
    (λ i. bit_xor (bit_xor (low i * 32) v) (none i)) ∙ xor_zero_r (bit_xor (b * 32) v) ∙ (λ i. bit_xor (left i) (right i)) ∙ parts ∙ whole

-- six values alone are what is left of them
number_of_six : (a b c d e f : ℕ) → a < 32 → b < 32 → c < 32 → d < 32 → e < 32 → f < 32
    → remainder_from 0 (a ∷ b ∷ c ∷ d ∷ e ∷ f ∷ []) ≡ number_of (a ∷ b ∷ c ∷ d ∷ e ∷ f ∷ [])
number_of_six a b c d e f la lb lc ld le lf =
    let n1 : ℕ = 0 * 32 + a in
    let n2 : ℕ = n1 * 32 + b in
    let n3 : ℕ = n2 * 32 + c in
    let n4 : ℕ = n3 * 32 + d in
    let n5 : ℕ = n4 * 32 + e in
    ap (λ x. remainder_from x (b ∷ c ∷ d ∷ e ∷ f ∷ [])) (remainder_small 0 a (omega arith) la)
    ∙ ap (λ x. remainder_from x (c ∷ d ∷ e ∷ f ∷ [])) (remainder_small n1 b (omega arith) lb)
    ∙ ap (λ x. remainder_from x (d ∷ e ∷ f ∷ [])) (remainder_small n2 c (omega arith) lc)
    ∙ ap (λ x. remainder_from x (e ∷ f ∷ [])) (remainder_small n3 d (omega arith) ld)
    ∙ ap (λ x. remainder_from x (f ∷ [])) (remainder_small n4 e (omega arith) le)
    ∙ remainder_small n5 f (omega arith) lf

number_of_check : (vs : List ℕ) → length vs ≡ 6 → AreBelow 32 vs → remainder_from 0 vs ≡ number_of vs
number_of_check [] six below = absurd (omega arith)
number_of_check (a ∷ []) six below = absurd (omega arith)
number_of_check (a ∷ b ∷ []) six below = absurd (omega arith)
number_of_check (a ∷ b ∷ c ∷ []) six below = absurd (omega arith)
number_of_check (a ∷ b ∷ c ∷ d ∷ []) six below = absurd (omega arith)
number_of_check (a ∷ b ∷ c ∷ d ∷ e ∷ []) six below = absurd (omega arith)
number_of_check (a ∷ b ∷ c ∷ d ∷ e ∷ f ∷ []) six below =
    number_of_six a b c d e f (below 0 0 (omega arith)) (below 1 0 (omega arith)) (below 2 0 (omega arith)) (below 3 0 (omega arith)) (below 4 0 (omega arith)) (below 5 0 (omega arith))
number_of_check (a ∷ b ∷ c ∷ d ∷ e ∷ f ∷ g ∷ vs) six below = absurd (omega arith)

same_six : (a b c d e f a' b' c' d' e' f' : ℕ) → a < 32 → b < 32 → c < 32 → d < 32 → e < 32 → f < 32 → a' < 32 → b' < 32 → c' < 32 → d' < 32 → e' < 32 → f' < 32
    → number_of (a ∷ b ∷ c ∷ d ∷ e ∷ f ∷ []) ≡ number_of (a' ∷ b' ∷ c' ∷ d' ∷ e' ∷ f' ∷ []) → (a ≡ a') × (b ≡ b') × (c ≡ c') × (d ≡ d') × (e ≡ e') × (f ≡ f')
same_six a b c d e f a' b' c' d' e' f' la lb lc ld le lf la' lb' lc' ld' le' lf' h =
    (omega arith, omega arith, omega arith, omega arith, omega arith, omega arith)

pub same_number_of_check : (vs ws : List ℕ) → length vs ≡ 6 → length ws ≡ 6 → AreBelow 32 vs → AreBelow 32 ws → number_of vs ≡ number_of ws → vs ≡ ws
same_number_of_check [] ws six' six below' below h = absurd (omega arith)
same_number_of_check (a ∷ []) ws six' six below' below h = absurd (omega arith)
same_number_of_check (a ∷ b ∷ []) ws six' six below' below h = absurd (omega arith)
same_number_of_check (a ∷ b ∷ c ∷ []) ws six' six below' below h = absurd (omega arith)
same_number_of_check (a ∷ b ∷ c ∷ d ∷ []) ws six' six below' below h = absurd (omega arith)
same_number_of_check (a ∷ b ∷ c ∷ d ∷ e ∷ []) ws six' six below' below h = absurd (omega arith)
same_number_of_check (a ∷ b ∷ c ∷ d ∷ e ∷ f ∷ g ∷ vs) ws six' six below' below h = absurd (omega arith)
same_number_of_check (a ∷ b ∷ c ∷ d ∷ e ∷ f ∷ []) ws six' six below' below h = other ws six below h
  where
    other : (ws : List ℕ) → length ws ≡ 6 → AreBelow 32 ws → number_of (a ∷ b ∷ c ∷ d ∷ e ∷ f ∷ []) ≡ number_of ws → a ∷ b ∷ c ∷ d ∷ e ∷ f ∷ [] ≡ ws
    other [] six below h = absurd (omega arith)
    other (a' ∷ []) six below h = absurd (omega arith)
    other (a' ∷ b' ∷ []) six below h = absurd (omega arith)
    other (a' ∷ b' ∷ c' ∷ []) six below h = absurd (omega arith)
    other (a' ∷ b' ∷ c' ∷ d' ∷ []) six below h = absurd (omega arith)
    other (a' ∷ b' ∷ c' ∷ d' ∷ e' ∷ []) six below h = absurd (omega arith)
    other (a' ∷ b' ∷ c' ∷ d' ∷ e' ∷ f' ∷ g' ∷ ws) six below h = absurd (omega arith)
    other (a' ∷ b' ∷ c' ∷ d' ∷ e' ∷ f' ∷ []) six below h =
        let parts = same_six a b c d e f a' b' c' d' e' f' (below' 0 0 (omega arith)) (below' 1 0 (omega arith)) (below' 2 0 (omega arith)) (below' 3 0 (omega arith)) (below' 4 0 (omega arith)) (below' 5 0 (omega arith))
        (below 0 0 (omega arith)) (below 1 0 (omega arith)) (below 2 0 (omega arith)) (below 3 0 (omega arith)) (below 4 0 (omega arith)) (below 5 0 (omega arith)) h in
        λ i. parts.0 i ∷ parts.1 i ∷ parts.2 i ∷ parts.3 i ∷ parts.4 i ∷ parts.5 i ∷ []

-- what is left, once six values more have come
pub after_check : (c : ℕ) (check : List ℕ) → length check ≡ 6 → AreBelow 32 check → remainder_from c check ≡ bit_xor (remainder_from c (replicate 6 0)) (number_of check)
after_check c check six below =
    ap (λ x. remainder_from x check) (sym (xor_zero_r c)) ∙ remainder_from-xor check c 0
    ∙ (λ i. bit_xor (remainder_from c (replicate (six i) 0)) (number_of_check check six below i))

-- the check value of values, the last of which are six
checksum_parts : (prefix front check : List ℕ) → bech32_checksum prefix (front ++ check) ≡ remainder_from (bech32_checksum prefix front) check
checksum_parts prefix front check =
    ap (remainder_from 1) (sym (append_assoc (expanded prefix) front check)) ∙ fold-append remainder_with 1 (expanded prefix ++ front) check

xor_back : (a b : ℕ) → bit_xor a (bit_xor a b) ≡ b
xor_back a b = sym (xor_assoc a a b) ∙ ap (λ x. bit_xor x b) (xor_self a) ∙ xor_zero_l b

-- six values make a check value right
pub made_right : (prefix front check : List ℕ) (now goal : ℕ) → length check ≡ 6 → AreBelow 32 check → now ≡ remainder_from (bech32_checksum prefix front) (replicate 6 0) → number_of check ≡ bit_xor now goal
    → bech32_checksum prefix (front ++ check) ≡ goal
made_right prefix front check now goal six below is number =
    checksum_parts prefix front check ∙ after_check (bech32_checksum prefix front) check six below ∙ (λ i. bit_xor (sym is i) (number i)) ∙ xor_back now goal

-- and no others do
pub one_check : (prefix front v w : List ℕ) (goal : ℕ) → length v ≡ 6 → length w ≡ 6 → AreBelow 32 v → AreBelow 32 w → bech32_checksum prefix (front ++ v) ≡ goal → bech32_checksum prefix (front ++ w) ≡ goal → v ≡ w
one_check prefix front v w goal six_v six_w below_v below_w right_v right_w =
    let start : ℕ = remainder_from (bech32_checksum prefix front) (replicate 6 0) in
    let of_v : bit_xor start (number_of v) ≡ goal = sym (checksum_parts prefix front v ∙ after_check (bech32_checksum prefix front) v six_v below_v) ∙ right_v in
    let of_w : bit_xor start (number_of w) ≡ goal = sym (checksum_parts prefix front w ∙ after_check (bech32_checksum prefix front) w six_w below_w) ∙ right_w in
    let same : number_of v ≡ number_of w = sym (xor_back start (number_of v)) ∙ ap (bit_xor start) (of_v ∙ sym of_w) ∙ xor_back start (number_of w) in
    same_number_of_check v w six_v six_w below_v below_w same

-- what is left has thirty bits
where_set_below : (b i g : ℕ) → g < 2 ^ 30 → where_set b i g < 2 ^ 30
unfolding where_set
where_set_below b i g lt = at (bit_at b i == 1)
  where
    at : (t : Bool) → (if t then g else 0) < 2 ^ 30
    at true = lt
    at false = lit< tt

generator_below : (b : ℕ) → times_generator b < 2 ^ 30
unfolding times_generator
generator_below b =
    xor_lt 30 _ _ (xor_lt 30 _ _ (xor_lt 30 _ _ (xor_lt 30 _ _ (where_set_below b 0 0x3b6a57b2 (lit< tt)) (where_set_below b 1 0x26508e6d (lit< tt))) (where_set_below b 2 0x1ea119fa (lit< tt))) (where_set_below b 3 0x3d4233dd (lit< tt))) (where_set_below b 4 0x2a1462b3 (lit< tt))

remainder_below : (c v : ℕ) → v < 2 ^ 30 → remainder_with c v < 2 ^ 30
unfolding remainder_with
remainder_below c v lt =
    let low : c % 2 ^ 25 * 32 < 2 ^ 30 = omega arith in
    xor_lt 30 (bit_xor (c % 2 ^ 25 * 32) v) (times_generator (c / 2 ^ 25)) (xor_lt 30 (c % 2 ^ 25 * 32) v low lt) (generator_below (c / 2 ^ 25))

goal_below : (version : ℕ) → checksum_for version < 2 ^ 30
goal_below version = at (version == 0)
  where
    at : (t : Bool) → (if t then 1 else 0x2bc830a3) < 2 ^ 30
    at true = lit< tt
    at false = lit< tt

pub check_below : (c now version goal : ℕ) → now ≡ remainder_from c (0 ∷ 0 ∷ 0 ∷ 0 ∷ 0 ∷ 0 ∷ []) → goal ≡ checksum_for version → bit_xor now goal < 2 ^ 30
check_below c now version goal is goal_is =
    xor_lt 30 now goal (rw is (remainder_below (remainder_from c (0 ∷ 0 ∷ 0 ∷ 0 ∷ 0 ∷ [])) 0 (lit< tt))) (rw goal_is (goal_below version))
