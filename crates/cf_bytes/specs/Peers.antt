-- statement: how many peers a run may have.
use Rattle.std.specs.Prelude.{ℕ}

-- the most peers of a run
abbrev pub most_peers : ℕ
most_peers = 8
