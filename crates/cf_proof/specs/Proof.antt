-- statement: a proof that a transaction stands in a block: BIP 37 "merkleblock", and how its bytes are read.
use Rattle.std.specs.Prelude.{ℕ, ◌==◌, Bool, if◌then◌else◌, List, [], ◌∷◌, ◌++◌, length, Result, Ok, Err}
use Rattle.std.specs.Int.{w32, to_le_bytes, bit_at}
use Rattle.std.specs.List.{flat_map}
use Rattle.cf_bytes.specs.Cut.{Read, number_at, ◌>>=◌}
use Rattle.cf_bytes.specs.Compact.{compact, compact_at}
use Rattle.cf_bytes.specs.Lists.{list_at, counted_bytes, counted_bytes_at}
use Rattle.cf_bytes.specs.declared.cut.CutFault.{CutFault}
use Rattle.cf_bytes.specs.declared.hash.Hash32.{Hash32}
use Rattle.cf_block.specs.declared.header.Header.{Header}
use Rattle.cf_block.specs.declared.fault.BlockFault.{BlockFault}
use Rattle.cf_block.specs.Header.{header_spelling, header_at, hash_at}
use Rattle.cf_proof.specs.declared.proof.Proof.{Proof}
use Rattle.cf_proof.specs.declared.fault.ProofFault.{ProofFault}
use Rattle.cf_proof.specs.declared.fault.ProofFault.TheVariants.{Short, Rest}
use Rattle.cf_proof.specs.Causes.{of_cut}

-- the bytes of a proof
unfoldable pub proof_spelling : Proof → List ℕ
proof_spelling p = header_spelling p.header ++ (to_le_bytes w32 p.total ++ (compact (length p.hashes) ++ (flat_map (λ h. h.0) p.hashes ++ counted_bytes p.flags)))

-- the bits of a byte, the least significant first, and of bytes
abbrev pub flags_of_byte : ℕ → List Bool
flags_of_byte b = (bit_at b 0 == 1) ∷ (bit_at b 1 == 1) ∷ (bit_at b 2 == 1) ∷ (bit_at b 3 == 1) ∷ (bit_at b 4 == 1) ∷ (bit_at b 5 == 1) ∷ (bit_at b 6 == 1) ∷ (bit_at b 7 == 1) ∷ []

-- the bits of bytes, the least significant of each byte first (BIP 37)
abbrev pub flags_of : List ℕ → List Bool
flags_of bytes = flat_map flags_of_byte bytes

-- a field, whose fault is the proof's
abbrev pub field_at : {X : Type 0} → Read X CutFault → Read X ProofFault
field_at (Ok x) = Ok x
field_at (Err e) = Err (of_cut e.0, e.1)

-- a header, whose fault is that it is cut off
abbrev pub or_short : Read Header BlockFault → Read Header ProofFault
or_short (Ok x) = Ok x
or_short (Err e) = Err (Short, e.1)

-- the header of the block
abbrev pub header_field_at : List ℕ → Read Header ProofFault
header_field_at bytes = or_short (header_at bytes)

-- one hash of a node
abbrev pub hash_field_at : List ℕ → Read Hash32 ProofFault
hash_field_at bytes = field_at (hash_at bytes)

-- the fields in turn, and what follows
unfoldable pub fields_at : List ℕ → Read Proof ProofFault
fields_at bytes = do
  header ← header_field_at bytes
  total ← field_at (number_at w32 header.1)
  count ← field_at (compact_at total.1)
  hashes ← list_at hash_field_at count.0 count.1
  flags ← field_at (counted_bytes_at hashes.1)
  Ok (record { header = header.0; total = total.0; hashes = hashes.0; flags = flags.0 }, flags.1)

-- what bytes are read as: all of them are the proof's, or the first fault
abbrev pub all_of : Read Proof ProofFault → Result Proof ProofFault
all_of (Ok x) = if length x.1 == 0 then Ok x.0 else Err Rest
all_of (Err e) = Err e.0

-- what bytes are read as: a proof with nothing left, or the fault of the first field that can't be read
unfoldable pub proof_at : List ℕ → Result Proof ProofFault
proof_at bytes = all_of (fields_at bytes)
