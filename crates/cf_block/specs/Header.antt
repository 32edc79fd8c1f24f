-- statement: headers (Bitcoin developer reference, "Block Headers"): version, previous hash, Merkle root, time, bits and nonce, 80 bytes.
use Rattle.std.specs.Prelude.{◌≡◌, ℕ, pos, ◌^◌, ◌<◌, List, [], ◌∷◌, ◌++◌, length, replicate, Ok, Err, FitsSigned}
use Rattle.std.specs.Int.{w32, to_le_bytes, cast_unsigned}
use Rattle.cf_bytes.specs.Cut.{Read, bytes_at, number_at, int_at, ◌>>=◌}
use Rattle.cf_bytes.specs.Hash.{hash_of}
use Rattle.cf_bytes.specs.declared.cut.CutFault.{CutFault}
use Rattle.cf_bytes.specs.declared.hash.Hash32.{Hash32}
use Rattle.cf_block.specs.declared.fault.BlockFault.{BlockFault}
use Rattle.cf_block.specs.declared.fault.BlockFaultKind.TheVariants.{Short}
use Rattle.cf_block.specs.declared.header.Header.{Header}

-- a hash has 32 bytes
abbrev pub IsHash : Hash32 → Type 0
IsHash h = length h.0 ≡ 32

-- its fields are in their types' ranges
pub record IsHeader (h : Header) : Type 0 where
  pub version : FitsSigned w32 h.version
  pub previous : IsHash h.previous
  pub root : IsHash h.root
  pub time : h.time < 2 ^ 32
  pub bits : h.bits < 2 ^ 32
  pub nonce : h.nonce < 2 ^ 32

-- the 80 bytes of a header
unfoldable pub header_spelling : Header → List ℕ
header_spelling h =
    to_le_bytes w32 (cast_unsigned w32 h.version) ++ (h.previous.0 ++ (h.root.0
    ++ (to_le_bytes w32 h.time ++ (to_le_bytes w32 h.bits ++ to_le_bytes w32 h.nonce))))

-- a hash
abbrev pub hash_at : List ℕ → Read Hash32 CutFault
hash_at bytes = bytes_at 32 bytes >>= λ x. Ok (record { 0 = x.0 }, x.1)

-- the fields in turn
unfoldable pub header_fields_at : List ℕ → Read Header CutFault
header_fields_at bytes = do
  version ← int_at w32 bytes
  previous ← hash_at version.1
  root ← hash_at previous.1
  time ← number_at w32 root.1
  bits ← number_at w32 time.1
  nonce ← number_at w32 bits.1
  Ok (record { version = version.0; previous = previous.0; root = root.0; time = time.0; bits = bits.0; nonce = nonce.0 }, nonce.1)

-- a header that is cut off is refused as a whole, at its start
abbrev pub whole_header : List ℕ → Read Header CutFault → Read Header BlockFault
whole_header bytes (Ok x) = Ok x
whole_header bytes (Err e) = Err (record { kind = Short; place = 0 }, bytes)

-- what reading a header gives
unfoldable pub header_at : List ℕ → Read Header BlockFault
header_at bytes = whole_header bytes (header_fields_at bytes)

-- a header's hash: SHA-256 of SHA-256 of its 80 bytes
unfoldable pub block_hash_of : Header → List ℕ
block_hash_of h = hash_of (header_spelling h)

-- the first header of regtest's chain (Bitcoin Core, chainparams.cpp)
unfoldable pub genesis_header : Header
genesis_header = record {
  version = pos 1;
  previous = record { 0 = replicate 32 0 };
  root = record {
    0 =
        0x3b ∷ 0xa3 ∷ 0xed ∷ 0xfd ∷ 0x7a ∷ 0x7b ∷ 0x12 ∷ 0xb2 ∷ 0x7a ∷ 0xc7 ∷ 0x2c ∷ 0x3e ∷ 0x67 ∷ 0x76 ∷ 0x8f ∷ 0x61
        ∷ 0x7f ∷ 0xc8 ∷ 0x1b ∷ 0xc3 ∷ 0x88 ∷ 0x8a ∷ 0x51 ∷ 0x32 ∷ 0x3a ∷ 0x9f ∷ 0xb8 ∷ 0xaa ∷ 0x4b ∷ 0x1e ∷ 0x5e ∷ 0x4a ∷ [];
  };
  time = 1296688602;
  bits = 0x207fffff;
  nonce = 2;
}
