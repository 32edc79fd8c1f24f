-- What was asked of the files.
use Rattle.std.proofs.Common.{inl, inr, ℕ, List, [], ◌∷◌, refl}
use Rattle.cf_bytes.specs.Files.{ReadsFile, Opens, Parts, IsRead}
use Rattle.cf_conn.specs.Opened.{IsReadByParts}
use Rattle.cf_loading.specs.Asking.{FileRead, Whole, ByParts, AreRead}

-- the first file alone was read
pub read_first : {F : Type 0} (reads : ReadsFile F) (opens : Opens F) (parts : Parts F) (name : List ℕ) (files : List FileRead) (before after : F)
    → IsRead reads name before after → AreRead reads opens parts (Whole name ∷ files) before after
read_first reads opens parts name [] before after one = inr (after, one, refl)
read_first reads opens parts name (other ∷ files) before after one = inr (after, one, inl refl)

-- one was read whole, and then one by parts
pub read_then : {F : Type 0} (reads : ReadsFile F) (opens : Opens F) (parts : Parts F) (name other : List ℕ) (before between after : F)
    → IsRead reads name before between → IsReadByParts opens parts other between after → AreRead reads opens parts (Whole name ∷ ByParts other ∷ []) before after
read_then reads opens parts name other before between after one two = inr (between, one, inr (after, two, refl))

-- the files that were read, by how far it came
pub ruleset asked = (read_first, read_then)
