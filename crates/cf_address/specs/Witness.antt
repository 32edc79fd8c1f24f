-- statement: witness programs and their scripts: BIP 141 "Witness program".
use Rattle.std.specs.Prelude.{ℕ, ◌+◌, ◌≤◌, ◌==◌, nat_le, Bool, ◌&&◌, ◌||◌, if◌then◌else◌, IsTrue, List, ◌∷◌, length}
use Rattle.cf_address.specs.Bits.{AreBelow}

-- a version and some bytes
pub record WitnessProgram : Type 0 where
  pub version : ℕ
  pub bytes : List ℕ

-- how many bytes a program of this version may have
abbrev pub is_length : ℕ → ℕ → Bool
is_length version n = if version == 0 then n == 20 || n == 32 else nat_le 2 n && nat_le n 40

-- a version from 0 to 16, and as many bytes as it may have
pub record IsProgram (program : WitnessProgram) : Type 0 where
  pub version : program.version ≤ 16
  pub sized : IsTrue (is_length program.version (length program.bytes))
  pub bytes : AreBelow 256 program.bytes

-- the byte for a version: OP_0, or OP_1 to OP_16
abbrev pub opcode_of : ℕ → ℕ
opcode_of version = if version == 0 then 0 else 0x50 + version

-- the script that a program is: its version as one byte, how many bytes it has, and these bytes (BIP 141 "Witness program")
abbrev pub script_of : WitnessProgram → List ℕ
script_of program = opcode_of program.version ∷ length program.bytes ∷ program.bytes
