-- machine: what is delivered of bytes that wait, and what then waits.
use Rattle.std.specs.Prelude.{ℕ, List, length, take, drop, min}

-- the first 4,096, or all where there are fewer
abbrev pub front_of : List ℕ → List ℕ
front_of waiting = take (min (length waiting) 4096) waiting

-- what waits behind the first 4,096 bytes
abbrev pub behind_front : List ℕ → List ℕ
behind_front waiting = drop (min (length waiting) 4096) waiting
