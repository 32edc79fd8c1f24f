-- Heights and places.
use Rattle.std.proofs.Common.{◌≡◌, ℕ, zero, suc, ◌+◌, ◌-◌, ◌*◌, ◌/◌, ◌^◌, ◌<◌, ◌≤◌, false, ◌∙◌, ap, inl, inr, add-one, arith}
use Rattle.std.specs.Prelude.{nat_le, if◌then◌else◌}
use Rattle.std.proofs.Math.Nat.{two-pow-succ}
use Rattle.std.proofs.lemmas.Nat.{pow_below}
use Rattle.std.proofs.lemmas.Bool.{lt-leb, le-leb, cases_lt}
use Rattle.cf_proof.specs.Tree.{height_within}

-- one height more
pub height_step : (most n h goal : ℕ) → 1 < n → n ≤ most → height_within most n + h ≡ goal → height_within (most - 1) ((n + 1) / 2) + (h + 1) ≡ goal
unfolding height_within
height_step zero n h goal lt fits is = absurd (omega arith)
height_step (suc most) n h goal lt fits is =
    let more : nat_le n 1 ≡ false = lt-leb n 1 lt in
    let one : height_within (suc most) n ≡ suc (height_within most ((n + 1) / 2)) = ap (λ b. if b then zero else suc (height_within most ((n + 1) / 2))) more in
    let less : suc most - 1 ≡ most = omega arith in
    let same : height_within (suc most - 1) ((n + 1) / 2) ≡ height_within most ((n + 1) / 2) = ap (λ m. height_within m ((n + 1) / 2)) less in
    omega (arith, one, same)

pub height_done : (most n h goal : ℕ) → n ≤ 1 → height_within most n + h ≡ goal → h ≡ goal
unfolding height_within
height_done zero n h goal le is = omega arith
height_done (suc most) n h goal le is =
    let none : height_within (suc most) n ≡ 0 = ap (λ b. if b then zero else suc (height_within most ((n + 1) / 2))) (le-leb n 1 le) in
    omega (arith, none)

pow_at_most : (j k : ℕ) → j ≤ k → 2 ^ j ≤ 2 ^ k
pow_at_most j k le = elim (cases_lt j k) [ inl less ↦ (let lt : 2 ^ j < 2 ^ k = pow_below j k less in omega arith) | inr more ↦ (let same : j ≡ k = omega arith in rw same (omega arith)) ]

-- a height is low where a second place is there
pub height_low : (h t : ℕ) → 1 * 2 ^ h < t → t ≤ 16666 → h < 15
height_low h t lt few = elim (cases_lt h 15) [ inl less ↦ less | inr more ↦ absurd (let far : 2 ^ 15 ≤ 2 ^ h = pow_at_most 15 h more in omega arith) ]

-- the children of a node
pub twice_there : (k h t : ℕ) → 2 * k * 2 ^ h < t → k * 2 ^ (h + 1) < t
twice_there k h t lt = let twice : 2 ^ (h + 1) ≡ 2 ^ h + 2 ^ h = ap (λ n. 2 ^ n) (add-one h) ∙ two-pow-succ h in omega (arith, ap (λ x. k * x) twice)

pub left_there : (p h t : ℕ) → 0 < h → p * 2 ^ h < t → 2 * p * 2 ^ (h - 1) < t
left_there p h t some lt =
    let up : h ≡ suc (h - 1) = omega arith in
    let twice : 2 ^ h ≡ 2 ^ (h - 1) + 2 ^ (h - 1) = ap (λ n. 2 ^ n) up ∙ two-pow-succ (h - 1) in
    omega (arith, ap (λ x. p * x) twice)
