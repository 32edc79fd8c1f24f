-- Items that are read from lent bytes one after another.
use Rattle.std.proofs.Common.{◌≡◌, ℕ, zero, suc, ◌-◌, ◌+◌, ◌<◌, ◌≤◌, List, [], ◌∷◌, ◌++◌, true, Ok, Err, refl, sym, ap, ◌∙◌, arith, length-append, subst}
use Rattle.cf_bytes.specs.Cut.{Read, ◌>>=◌}
use Rattle.cf_bytes.specs.Lists.{list_at, with_front}
use Rattle.cf_bytes.proofs.Codecs.{value_of}
use Rattle.cf_view.specs.Lent.{items_of, is_read, items_in, AreThere}

with_none : {X E : Type 0} (r : Read (List X) E) → with_front [] r ≡ r
with_none (Ok x) = refl
with_none (Err e) = refl

-- nothing was read yet
pub starts : {X E : Type 0} (item : List ℕ → Read X E) (count : ℕ) (bytes : List ℕ)
    → with_front [] (list_at item (count - 0) bytes) ≡ list_at item count bytes
starts item count bytes =
    ap (λ (n : ℕ). with_front [] (list_at item n bytes)) (omega arith) ∙ with_none (list_at item count bytes)

-- all were read: they stand there, and are these
pub there : {X E : Type 0} (item : List ℕ → Read X E) (count : ℕ) (bytes rest : List ℕ) (xs : List X)
    → list_at item count bytes ≡ Ok (xs, rest) → AreThere item count bytes
there item count bytes rest xs e = ap is_read e

pub items_are : {X E : Type 0} (item : List ℕ → Read X E) (count : ℕ) (bytes rest : List ℕ) (xs : List X)
    → list_at item count bytes ≡ Ok (xs, rest) → items_in item count bytes ≡ xs
items_are item count bytes rest xs e = ap items_of e

pub read_whole : {X E : Type 0} (item : List ℕ → Read X E) (count : ℕ) (bytes rest : List ℕ) (xs : List X)
    → list_at item count bytes ≡ Ok (xs, rest) → list_at item count bytes ≡ Ok (items_in item count bytes, rest)
read_whole {X} {E} item count bytes rest xs e =
    let P : List X → Type 0 = λ ys. list_at item count bytes ≡ Ok (ys, rest) in
    subst P (sym (items_are item count bytes rest xs e)) e

-- ---- the first of those that are left

others_case : {X E : Type 0} (first : X) (r : Read (List X) E)
    → is_read (r >>= λ others. Ok (first ∷ others.0, others.1)) ≡ true
    → (is_read r ≡ true) × (items_of (r >>= λ others. Ok (first ∷ others.0, others.1)) ≡ first ∷ items_of r)
others_case first (Ok others) is = (refl, refl)
others_case first (Err e) is = cc

first_case : {X E : Type 0} (item : List ℕ → Read X E) (n : ℕ) (r : Read X E)
    → is_read (r >>= λ first. list_at item n first.1 >>= λ others. Ok (first.0 ∷ others.0, others.1)) ≡ true
    → (x : X × List ℕ) → r ≡ Ok x
    → AreThere item n x.1 ×
    (items_of (r >>= λ first. list_at item n first.1 >>= λ others. Ok (first.0 ∷ others.0, others.1)) ≡ x.0 ∷
    items_in item n x.1)
first_case {X} {E} item n (Ok y) is x e =
    let P : X × List ℕ → Type 0 =
    λ p. AreThere item n p.1 ×
    (items_of (list_at item n y.1 >>= λ others. Ok (y.0 ∷ others.0, others.1)) ≡ p.0 ∷ items_in item n p.1) in
    let made : Read X E = Ok y in
    subst P (value_of y x made refl e) (others_case y.0 (list_at item n y.1) is)
first_case item n (Err f) is x e = cc

pub first_there : {X E : Type 0} (item : List ℕ → Read X E) (left : ℕ) (bytes more : List ℕ) (x : X) → 0 < left
    → AreThere item left bytes → item bytes ≡ Ok (x, more)
    → AreThere item (left - 1) more × (items_in item left bytes ≡ x ∷ items_in item (left - 1) more)
unfolding list_at
first_there item zero bytes more x some are e = absurd (omega (arith, some))
first_there {X} item (suc n) bytes more x some are e =
    let P : ℕ → Type 0 = λ m. AreThere item m more × (items_in item (suc n) bytes ≡ x ∷ items_in item m more) in
    let one : n ≡ suc n - 1 = omega arith in
    subst P one (first_case item n (item bytes) are (x, more) e)

refused_case : {X E : Type 0} (item : List ℕ → Read X E) (n : ℕ) (r : Read X E) (e : E × List ℕ) → r ≡ Err e
    → is_read (r >>= λ first. list_at item n first.1 >>= λ others. Ok (first.0 ∷ others.0, others.1)) ≡ true → ⊥
refused_case item n (Ok y) e is are = cc
refused_case item n (Err f) e is are = cc

pub first_good : {X E : Type 0} (item : List ℕ → Read X E) (left : ℕ) (bytes : List ℕ) (e : E × List ℕ) → 0 < left
    → AreThere item left bytes → item bytes ≡ Err e → ⊥
unfolding list_at
first_good item zero bytes e some are is = omega (arith, some)
first_good item (suc n) bytes e some are is = refused_case item n (item bytes) e is are

pub none_left : {X E : Type 0} (item : List ℕ → Read X E) (left : ℕ) (bytes : List ℕ) → left ≡ 0
    → items_in item left bytes ≡ []
unfolding list_at
none_left item zero bytes is = refl
none_left item (suc n) bytes is = absurd (omega (arith, is))
