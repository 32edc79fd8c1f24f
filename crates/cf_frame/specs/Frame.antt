-- statement: frames of the Bitcoin protocol on regtest, by the developer reference ("Message headers").
use Rattle.std.specs.Prelude.{◌≡◌, ℕ, ◌≤◌, nat_le, ◌==◌, Bool, true, ◌&&◌, take_while, List, ◌++◌, length, take, drop}
use Rattle.std.specs.Int.{w32, to_le_bytes}
use Rattle.std.specs.List.{list_all}
use Rattle.cf_bytes.specs.Hash.{hash_of}
use Rattle.cf_bytes.specs.Magic.{magic}
use Rattle.cf_frame.specs.declared.frame.Frame.{Frame}

-- a byte that a command may have before its NULs
abbrev pub is_printable : ℕ → Bool
is_printable b = nat_le 0x20 b && nat_le b 0x7e

-- after the printable bytes only NUL comes
abbrev pub is_command : List ℕ → Bool
is_command bytes = list_all (λ b. b == 0) (drop (length (take_while is_printable bytes)) bytes)

-- the first four bytes of the payload's hash
abbrev pub checksum : List ℕ → List ℕ
checksum payload = take 4 (hash_of payload)

-- what a frame may be
pub record IsFrame (f : Frame) : Type 0 where
  pub command : is_command f.command ≡ true
  pub twelve : length f.command ≡ 12
  pub payload : length f.payload ≤ 4000000

-- a frame on the wire: the magic, the command, the payload's length, its checksum and the payload
unfoldable pub spelling : Frame → List ℕ
spelling f = magic ++ f.command ++ to_le_bytes w32 (length f.payload) ++ checksum f.payload ++ f.payload
