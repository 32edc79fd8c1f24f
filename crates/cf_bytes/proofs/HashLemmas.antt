-- Hashes of 32 bytes.
use Rattle.std.proofs.Common.{◌≡◌, ℕ, List, length}
use Rattle.sha2.specs.Sha256.{sha256}
use Rattle.sha2.proofs.Facts256.{length-sha256}
use Rattle.cf_bytes.specs.Hash.{hash_of}

pub length-hash_of : (bytes : List ℕ) → length (hash_of bytes) ≡ 32
unfolding hash_of
length-hash_of bytes = length-sha256 (sha256 bytes)
