-- Where no file is written.
use Rattle.std.proofs.Common.{inl, ℕ, List, Option, Some, None, refl}
use Rattle.cf_bytes.specs.Files.{WritesFile, IsAtMostWritten}

-- no file was written
pub unwritten : {F : Type 0} (writes : WritesFile F) (file : Option (List ℕ)) (files : F) → IsAtMostWritten writes file files files
unwritten writes None files = refl
unwritten writes (Some name) files = inl refl
