-- What is none of one peer's blocks is none of another's, as far as their chains are the same.
use Rattle.std.proofs.Common.{◌≡◌, inl, inr, ℕ, zero, suc, ◌+◌, ◌≤◌, max, min, Bool, true, false, ◌&&◌, List, [], ◌∷◌, take, reverse, refl, sym, ◌∙◌, ap, subst, arith}
use Rattle.std.specs.Prelude.{◌==◌, bytes_eq, cond}
use Rattle.std.specs.Ordering.{int_eq}
use Rattle.std.specs.List.{common_prefix_len}
use Rattle.std.proofs.lemmas.Bool.{cases_lt}
use Rattle.std.proofs.lemmas.Bool.Decides.{Decides-eqb, Decides-int_eq}
use Rattle.std.proofs.lemmas.Slice.Eq.{bytes_eq-Decides}
use Rattle.std.proofs.lemmas.List.{reverse-reverse}
use Rattle.cf_block.specs.declared.header.Header.{Header}
use Rattle.cf_headers.specs.Chain.{Hash, Chain, lower, tip_hash}
use Rattle.cf_headers.specs.Heights.{hash_at, common_of, is_same_header}
use Rattle.cf_headers.proofs.Stacks.{lower_reverse}

-- ---- chains that share blocks

both : (a b : Bool) → (a && b) ≡ true → (a ≡ true) × (b ≡ true)
both true b e = (refl, e)
both false b e = (e, absurd (let no : false ≡ true = e in cc no))

six_true : (a b c d e f : Bool) → (a && b && c && d && e && f) ≡ true → (a ≡ true) × (b ≡ true) × (c ≡ true) × (d ≡ true) × (e ≡ true) × (f ≡ true)
six_true a b c d e f all =
    let five = both (a && b && c && d && e) f all in
    let four = both (a && b && c && d) e five.0 in
    let three = both (a && b && c) d four.0 in
    let two = both (a && b) c three.0 in
    let one = both a b two.0 in
    (one.0, one.1, two.1, three.1, four.1, five.1)

header_alike : (a b : Header) → a.version ≡ b.version → a.previous.0 ≡ b.previous.0 → a.root.0 ≡ b.root.0 → a.time ≡ b.time → a.bits ≡ b.bits → a.nonce ≡ b.nonce → a ≡ b
header_alike a b version previous root time bits nonce =
    λ i. record { version = version i; previous = record { 0 = previous i }; root = record { 0 = root i }; time = time i; bits = bits i; nonce = nonce i }

-- headers that agree in each field are one
header_same : (a b : Header) → is_same_header a b ≡ true → a ≡ b
header_same a b all =
    let each = six_true (int_eq a.version b.version) (bytes_eq a.previous.0 b.previous.0) (bytes_eq a.root.0 b.root.0) (a.time == b.time) (a.bits == b.bits) (a.nonce == b.nonce) all in
    header_alike a b ((Decides-int_eq a.version b.version).0 each.0) ((bytes_eq-Decides a.previous.0 b.previous.0).0 each.1) ((bytes_eq-Decides a.root.0 b.root.0).0 each.2)
    ((Decides-eqb a.time b.time).0 each.3) ((Decides-eqb a.bits b.bits).0 each.4) ((Decides-eqb a.nonce b.nonce).0 each.5)

same_heads : (x y : Header) (xs ys : List Header) (k n : ℕ) (b : Bool) → is_same_header x y ≡ b → (k ≤ n → take k xs ≡ take k ys) → suc k ≤ cond b (1 + n) 0 → x ∷ take k xs ≡ y ∷ take k ys
same_heads x y xs ys k n true e rest low = (let one = header_same x y e in let tails = rest (omega (arith, low)) in λ i. one i ∷ tails i)
same_heads x y xs ys k n false e rest low = absurd (omega (arith, low))

take_shared : (k : ℕ) (xs ys : List Header) → k ≤ common_prefix_len is_same_header xs ys → take k xs ≡ take k ys
take_shared zero xs ys le = refl
take_shared (suc k) [] ys le = absurd (omega (arith, le))
take_shared (suc k) (x ∷ xs) [] le = absurd (omega (arith, le))
take_shared (suc k) (x ∷ xs) (y ∷ ys) le =
    same_heads x y xs ys k (common_prefix_len is_same_header xs ys) (is_same_header x y) refl (λ low. take_shared k xs ys low) le

lower_take : (h : ℕ) (own : Chain) → lower h own ≡ reverse (take h (reverse own))
lower_take h own = ap (λ (c : Chain). lower h c) (sym (reverse-reverse own)) ∙ lower_reverse h (reverse own)

-- up to the common height the hashes are the same
pub hash_shared : (own other : Chain) (h : ℕ) → h ≤ common_of own other → hash_at own h ≡ hash_at other h
hash_shared own other h low =
    ap tip_hash (lower_take h own ∙ ap reverse (take_shared h (reverse own) (reverse other) low) ∙ sym (lower_take h other))

-- what is none of the other chain's blocks is none of these, as far as they are shared
none_shared : (P : Hash → Type 0) (own other : Chain) (k : ℕ) → k ≤ common_of own other → ((h : ℕ) → 1 ≤ h → h ≤ k → P (hash_at other h) → ⊥) → (h : ℕ) → 1 ≤ h → h ≤ k → P (hash_at own h) → ⊥
none_shared P own other k shared none h up low is = none h up low (subst P (hash_shared own other h (omega (arith, low, shared))) is)

pub none_higher : (P : Hash → Type 0) (own other : Chain) (from theirs common : ℕ) → common ≡ common_of own other
    → ((h : ℕ) → 1 ≤ h → h ≤ from → P (hash_at own h) → ⊥) → ((h : ℕ) → 1 ≤ h → h ≤ theirs → P (hash_at other h) → ⊥)
    → (h : ℕ) → 1 ≤ h → h ≤ max from (min theirs common) → P (hash_at own h) → ⊥
none_higher P own other from theirs common is first second h up low = elim (cases_lt from h) [
  | inl lt ↦ none_shared P own other (min theirs common) (omega (arith, is)) (λ k one le. second k one (omega (arith, le))) h up (omega (arith, lt, low))
  | inr ge ↦ first h up ge
]

-- ---- marks that go up
