-- statement: names as they are dialled.
use Rattle.std.specs.Prelude.{ℕ, List, map, string_bytes, String}
use Rattle.std.specs.declared.alloc.Global.{Global}

-- the bytes of each name
abbrev pub names_in : List (String Global) → List (List ℕ)
names_in names = map string_bytes names
