-- machine: how a batch is cut in parts.
use Rattle.std.specs.Prelude.{ℕ, zero, suc, ◌+◌, ◌*◌, ◌/◌, ◌%◌, min, List, [], ◌∷◌, ◌++◌, length, slice_range}

-- where part k of n in w parts begins: the first n % w have one more than the others
abbrev pub place_of : ℕ → ℕ → ℕ → ℕ
place_of n w k = k * (n / w) + min k (n % w)

-- part k of a list in w parts
abbrev pub part_of : {X : Type 0} → ℕ → List X → ℕ → List X
part_of w xs k = slice_range xs (place_of (length xs) w k) (place_of (length xs) w (k + 1))

-- the first k of w parts
abbrev pub first_parts : {X : Type 0} → ℕ → List X → ℕ → List (List X)
first_parts w xs zero = []
first_parts w xs (suc k) = first_parts w xs k ++ part_of w xs k ∷ []

-- a list in w parts, in order
abbrev pub in_parts : {X : Type 0} → ℕ → List X → List (List X)
in_parts w xs = first_parts w xs w

-- lists, one after another
abbrev pub joined : {X : Type 0} → List (List X) → List X
joined [] = []
joined (xs ∷ rest) = xs ++ joined rest
