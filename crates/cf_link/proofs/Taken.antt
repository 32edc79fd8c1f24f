-- The first items of a list, one after another.
use Rattle.std.proofs.Common.{◌≡◌, ◌+◌, ◌∙◌, ℕ, zero, suc, List, [], ◌∷◌, ◌++◌, take, drop, map, ap, sym, subst, refl, arith}
use Rattle.std.specs.Prelude.{All}

taken : {X : Type 0} (xs : List X) (n : ℕ) (x : X) (rest : List X) → drop n xs ≡ x ∷ rest → take (suc n) xs ≡ take n xs ++ x ∷ []
taken [] zero x rest e = cc
taken [] (suc n) x rest e = cc
taken (y ∷ xs) zero x rest e = cc
taken (y ∷ xs) (suc n) x rest e = ap (λ l. y ∷ l) (taken xs n x rest e)

dropped : {X : Type 0} (xs : List X) (n : ℕ) (x : X) (rest : List X) → drop n xs ≡ x ∷ rest → drop (suc n) xs ≡ rest
dropped [] zero x rest e = cc
dropped [] (suc n) x rest e = cc
dropped (y ∷ xs) zero x rest e = cc
dropped (y ∷ xs) (suc n) x rest e = dropped xs n x rest e

map_more : {X Y : Type 0} (f : X → Y) (xs : List X) (x : X) → map f (xs ++ x ∷ []) ≡ map f xs ++ f x ∷ []
map_more f [] x = refl
map_more f (y ∷ xs) x = ap (λ l. f y ∷ l) (map_more f xs x)

-- the items that were taken, of which one more is
pub one_taken : {X Y : Type 0} (f : X → Y) (xs : List X) (n : ℕ) (x : X) (rest : List X) → drop n xs ≡ x ∷ rest → map f (take (n + 1) xs) ≡ map f (take n xs) ++ f x ∷ []
one_taken f xs n x rest e =
    let next : n + 1 ≡ suc n = omega arith in
    ap (λ m. map f (take m xs)) next ∙ ap (map f) (taken xs n x rest e) ∙ map_more f (take n xs) x

pub one_dropped : {X : Type 0} (xs : List X) (n : ℕ) (x : X) (rest : List X) → drop n xs ≡ x ∷ rest → rest ≡ drop (n + 1) xs
one_dropped xs n x rest e =
    let next : suc n ≡ n + 1 = omega arith in
    sym (dropped xs n x rest e) ∙ ap (λ m. drop m xs) next

-- what holds of all holds of those behind the first
pub all_rest : {X : Type 0} (P : X → Type 0) (xs ys : List X) (x : X) → xs ≡ x ∷ ys → All P xs → All P ys
all_rest {X} P xs ys x e h = λ k d lt. let Q : List X → Type 0 = λ l. All P l in subst Q e h (suc k) d (omega (arith, lt))
