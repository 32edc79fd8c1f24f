-- statement: a Merkle tree by heights and places: BIP 37 "Partial Merkle branch format".
use Rattle.std.specs.Prelude.{ℕ, zero, suc, ◌+◌, ◌*◌, ◌/◌, ◌^◌, nat_le, nat_lt, Bool, if◌then◌else◌, List, [], get_or}
use Rattle.cf_block.specs.Merkle.{next_level}

-- the height of the root over so many leaves, which is at most this
unfoldable pub height_within : ℕ → ℕ → ℕ
height_within zero n = zero
height_within (suc most) n = if nat_le n 1 then zero else suc (height_within most ((n + 1) / 2))

-- the height of a tree's root over so many leaves
abbrev pub height_of : ℕ → ℕ
height_of total = height_within total total

-- whether there is a node at this height and place: a leaf stands below it
abbrev pub is_there : ℕ → ℕ → ℕ → Bool
is_there total height place = nat_lt (place * 2 ^ height) total

-- the nodes at a height over these leaves, and one of them
unfoldable pub level_at : ℕ → List (List ℕ) → List (List ℕ)
level_at zero leaves = leaves
level_at (suc n) leaves = next_level (level_at n leaves)

-- the node at this height and place over these leaves
abbrev pub node_at : ℕ → ℕ → List (List ℕ) → List ℕ
node_at height place leaves = get_or (level_at height leaves) place []
