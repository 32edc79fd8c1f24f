-- statement: the bytes by which messages and records of regtest are told (Bitcoin developer reference, "P2P Network", "Constants and Defaults").
use Rattle.std.specs.Prelude.{ℕ, List, [], ◌∷◌}

-- regtest's magic: the four bytes that begin each frame and each record of a file of blocks
abbrev pub magic : List ℕ
magic = 0xfa ∷ 0xbf ∷ 0xb5 ∷ 0xda ∷ []
