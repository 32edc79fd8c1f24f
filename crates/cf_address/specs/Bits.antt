-- statement: numbers as lists of bits, the most significant first.
use Rattle.std.specs.Prelude.{◌≡◌, ℕ, ◌<◌, ◌==◌, Bool, false, List, ◌∷◌, ◌++◌, replicate}
use Rattle.cf_bytes.specs.Bits.{bits_of}
use Rattle.std.specs.List.{All, flat_map}

-- the bits of numbers of k bits each, one after another
abbrev pub all_bits : ℕ → List ℕ → List Bool
all_bits k numbers = flat_map (bits_of k) numbers

-- numbers below a limit
abbrev pub AreBelow : ℕ → List ℕ → Type 0
AreBelow limit numbers = All (λ v. v < limit) numbers

-- the bits of bytes in fives, the last one filled up with zeros
pub record AreFivesOf (bytes fives : List ℕ) : Type 0 where
  pub zeros : ℕ
  pub few : zeros < 5
  pub same : all_bits 5 fives ≡ all_bits 8 bytes ++ replicate zeros false
  pub small : AreBelow 32 fives
