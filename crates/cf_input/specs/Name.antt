-- statement: the names of peers.
use Rattle.std.specs.Prelude.{ℕ, ◌&&◌, nat_lt, nat_le, Bool, List, length}
use Rattle.std.specs.List.{list_all}

-- a byte that a name may have: from 0x21 to 0x7e
abbrev pub is_printable : ℕ → Bool
is_printable b = nat_le 33 b && nat_le b 126

-- 1 to 255 bytes from 0x21 to 0x7e
abbrev pub is_name : List ℕ → Bool
is_name text = list_all is_printable text && (nat_lt 0 (length text) && nat_le (length text) 255)
