-- statement: what is kept of the blocks that join a chain.
use Rattle.std.specs.Prelude.{ℕ, List, Option, Some, None, ◌-◌, length, take, drop}
use Rattle.std.specs.List.{flat_map}
use Rattle.cf_block.specs.declared.tx.Block.{Block}
use Rattle.cf_walk.specs.Records.{record_spelling}

-- the records of the blocks that stand on a chain above one that it began with, the lowest first
abbrev pub records_above : List Block → List Block → List ℕ
records_above old new = flat_map record_spelling (drop (length old) new)

-- the bytes that are told, without the last of them, so many
abbrev pub without_last : ℕ → Option (List ℕ) → Option (List ℕ)
without_last count None = None
without_last count (Some bytes) = Some (take (length bytes - count) bytes)
