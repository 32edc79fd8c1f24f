-- statement: numbers as lists of bits, the most significant first.
use Rattle.std.specs.Prelude.{ℕ, suc, zero, ◌==◌, Bool, List, [], ◌∷◌}
use Rattle.std.specs.Int.{bit_at}

-- the low k bits of a number
unfoldable pub bits_of : ℕ → ℕ → List Bool
bits_of zero v = []
bits_of (suc k) v = (bit_at v k == 1) ∷ bits_of k v
